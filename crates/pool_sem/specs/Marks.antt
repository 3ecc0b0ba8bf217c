-- What is marked beside the entries of a pool.
use Rattle.std.specs.Prelude.{◌≡◌, ℕ, ◌<◌, ◌/◌, ◌%◌, Bool, List, nat_eq}
use Rattle.std.specs.Prelude.{slice_index}
use Rattle.std.specs.Int.{bit_at}
use Rattle.std.specs.List.{list_any}
use Rattle.token_sem.specs.declared.entry.SemEntry.{SemEntry}
use Rattle.pool_sem.specs.declared.marks.Marks.{Marks}
use Rattle.pool_sem.specs.Pools.{has}

-- the token's bit is set: of each word of 64 bits the lowest is that of the least token
abbrev pub is_marked : Marks → ℕ → Bool
is_marked marks token = nat_eq (bit_at (slice_index marks.had (token / 64)) (token % 64)) 1

-- the tokens that are marked are those that an entry has
abbrev pub AreMarks : Marks → List SemEntry → Type 0
AreMarks marks entries = (token : ℕ) → token < 256 → is_marked marks token ≡ list_any (has token) entries
