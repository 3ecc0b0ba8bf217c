-- The passes with which a device of two clients begins.
use Rattle.std.proofs.Common.{◌≡◌, ℕ, zero, suc, ◌+◌, ◌<◌, ◌^◌, List, [], ◌∷◌, ◌++◌, length, map, refl, sym, ◌∙◌, ap, subst, arith, rules, length-append}
use Rattle.std.specs.List.{range_with_len}
use Rattle.part_table.specs.Known.{Opened, newcomer}
use Rattle.step_parts.specs.declared.part.Part.{Part}
use Rattle.mms_device.specs.Callers.{AreInOrder}
use Rattle.mms_device.specs.Shared.{Caller}
use Rattle.mms_device.proofs.Gathering.{newcomers}

-- three that were taken from the end, one by one
pub three_taken : {X : Type 0} (all two one rest : List X) (a b c : X) → all ≡ two ++ (c ∷ []) → two ≡ one ++ (b ∷ []) → one ≡ rest ++ (a ∷ []) → length all ≡ 3 → all ≡ a ∷ b ∷ c ∷ []
three_taken all two one [] a b c third second first three = third ∙ ap (λ l. l ++ (c ∷ [])) (second ∙ ap (λ l. l ++ (b ∷ [])) first)
three_taken all two one (x ∷ rest) a b c third second first three =
    let long = ap length third ∙ length-append two (c ∷ []) in
    let less = ap length second ∙ length-append one (b ∷ []) in
    let least = ap length first ∙ length-append (x ∷ rest) (a ∷ []) in
    absurd (omega (arith, long, less, least, three))

-- each of them may still commit
abbrev pub MayCommit : List Caller → Type 0
MayCommit [] = Unit {0}
MayCommit (pass ∷ passes) = (0 < pass.left) × MayCommit passes

newcomers_commit : (table : Opened Part) (from n : ℕ) → 0 < table.quota → MayCommit (map (newcomer table) (range_with_len from n))
newcomers_commit table from zero some = tt
newcomers_commit table from (suc n) some = (some, newcomers_commit table (from + 1) n some)

some_quota : (quota : ℕ) → quota ≡ 2 ^ 33 → 0 < quota
some_quota quota is = subst (λ n. 0 < n) (sym is) (search rules)

in_order : (table : Opened Part) (clients : ℕ) (passes all : List Caller) → passes ≡ all → passes ≡ map (newcomer table) (range_with_len 0 (clients + 1)) → AreInOrder table 0 all
in_order table clients passes all is new = subst (AreInOrder table 0) (sym new ∙ is) (newcomers table 0 (clients + 1))

may_commit : (table : Opened Part) (clients : ℕ) (passes all : List Caller) → table.quota ≡ 2 ^ 33 → passes ≡ all → passes ≡ map (newcomer table) (range_with_len 0 (clients + 1)) → MayCommit all
may_commit table clients passes all quota is new = subst MayCommit (sym new ∙ is) (newcomers_commit table 0 (clients + 1) (some_quota table.quota quota))

pub opened_in_order : (table : Opened Part) (clients : ℕ) (passes : List Caller) (cell first second : Caller) → passes ≡ cell ∷ first ∷ second ∷ []
    → passes ≡ map (newcomer table) (range_with_len 0 (clients + 1)) → AreInOrder table 0 (cell ∷ first ∷ second ∷ [])
opened_in_order table clients passes cell first second is new = in_order table clients passes (cell ∷ first ∷ second ∷ []) is new

pub opened_commit : (table : Opened Part) (clients : ℕ) (passes : List Caller) (cell first second : Caller) → table.quota ≡ 2 ^ 33 → passes ≡ cell ∷ first ∷ second ∷ []
    → passes ≡ map (newcomer table) (range_with_len 0 (clients + 1)) → (0 < first.left) × (0 < second.left)
opened_commit table clients passes cell first second quota is new =
    let each = may_commit table clients passes (cell ∷ first ∷ second ∷ []) quota is new in (each.1.0, each.1.1.0)

newcomer_count : (table : Opened Part) (from n : ℕ) (passes : List Caller) → passes ≡ map (newcomer table) (range_with_len from n) → length passes ≡ n
newcomer_count table from zero passes is = ap length is
newcomer_count table from (suc n) passes is = ap length is ∙ ap suc (newcomer_count table (from + 1) n (map (newcomer table) (range_with_len (from + 1) n)) refl)

pub three_newcomers : (table : Opened Part) (clients : ℕ) (passes : List Caller) → clients ≡ 2 → passes ≡ map (newcomer table) (range_with_len 0 (clients + 1)) → length passes ≡ 3
three_newcomers table clients passes two new = newcomer_count table 0 (clients + 1) passes new ∙ ap (λ n. n + 1) two
