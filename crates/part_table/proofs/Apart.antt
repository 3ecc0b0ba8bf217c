-- Another part has another word, which is not the commit word, and another slot; and they lie 128 octets apart, where a word has 8 octets and a slot 16.
use Rattle.std.proofs.Common.{◌≡◌, ◌≢◌, ℕ, ◌+◌, ◌*◌, ◌<◌, ◌≤◌, arith}
use Rattle.part_table.specs.Lines.{owner_word, slot_of}

pub part_of_word : (i j : ℕ) → owner_word i ≡ owner_word j → i ≡ j
part_of_word i j e = omega arith

pub another_word : (i j : ℕ) → i ≢ j → owner_word i ≢ owner_word j
another_word i j ne e = ne (omega arith)

pub no_commit_word : (i : ℕ) → owner_word i ≢ 0
no_commit_word i e = omega arith

pub another_slot : (i j : ℕ) → i ≢ j → slot_of i ≢ slot_of j
another_slot i j ne e = ne (omega arith)

pub words_apart : (i j : ℕ) → i < j → 8 * owner_word i + 128 ≤ 8 * owner_word j
words_apart i j lt = omega arith

pub commit_word_apart : (i : ℕ) → 8 * 0 + 128 ≤ 8 * owner_word i
commit_word_apart i = omega arith

pub slots_apart : (i j : ℕ) → i < j → 16 * slot_of i + 128 ≤ 16 * slot_of j
slots_apart i j lt = omega arith
