-- What some semaphores have become, and all.
use Rattle.std.proofs.Common.{◌≡◌, ◌∙◌, ap, refl, sym, subst, ℕ, zero, suc, Bool, true, false, cond, List, [], ◌∷◌, slice_get, Option, None, Some, IsSome, unwrap_or}
use Rattle.std.specs.List.{AllByRecursion, IsDistinct}
use Rattle.std.specs.Map.{keys_of, lookup, set_value, values_of}
use Rattle.std.proofs.lemmas.Map.{NonePasses, lookup-none, lookup-set_value}
use Rattle.std.proofs.lemmas.Map.Keys.{IsDistinct-head, IsDistinct-tail}
use Rattle.std.proofs.lemmas.Map.Entries.{none_past_head}
use Rattle.indexmap.specs.Layout.{set_value_at}
use Rattle.mms_types.specs.KeyLaws.{keys_equal}
use Rattle.mms_types.specs.Order.{key_eq}
use Rattle.mms_types.specs.declared.key.Key.{Key}
use Rattle.mms_types.proofs.Precedence.{key_eq_tells}
use Rattle.mms_time.specs.Semaphores.{Rows}
use Rattle.mms_time.specs.declared.row.SemaphoreRow.{SemaphoreRow}
use Rattle.sem_ticks.specs.Drafts.{become}

-- one key stands for another that is the same
one_key : (k x y : Key) → key_eq k x ≡ true → key_eq k y ≡ key_eq x y
one_key k x y same = ap (λ (z : Key). key_eq z y) ((key_eq_tells k x).0 same)

itself : (k : Key) → key_eq k k ≡ true
itself k = (key_eq_tells k k).1 refl

-- a row of another name is found as before
pub other_name : (k q : Key) (v : SemaphoreRow) (C : Rows) → key_eq k q ≡ false → IsSome (lookup (key_eq k) C) → lookup (key_eq q) (set_value (key_eq k) C v) ≡ lookup (key_eq q) C
other_name k q v C apart there =
    lookup-set_value keys_equal (key_eq k) (λ x y. one_key k x y) q v C there ∙ ap (λ (b : Bool). cond b (Some v) (lookup (key_eq q) C)) apart

pub own_name : (k q : Key) (v : SemaphoreRow) (C : Rows) → key_eq k q ≡ true → IsSome (lookup (key_eq k) C) → lookup (key_eq q) (set_value (key_eq k) C v) ≡ Some v
own_name k q v C same there =
    lookup-set_value keys_equal (key_eq k) (λ x y. one_key k x y) q v C there ∙ ap (λ (b : Bool). cond b (Some v) (lookup (key_eq q) C)) same

abbrev row_now : Rows → Key × SemaphoreRow → Key × SemaphoreRow
row_now C row = (row.0, unwrap_or (lookup (key_eq row.0) C) row.1)

-- a row that has become another stands so in all
same_others : (k : Key) (v : SemaphoreRow) (C rows : Rows) → IsSome (lookup (key_eq k) C) → NonePasses (key_eq k) rows → become (set_value (key_eq k) C v) rows ≡ become C rows
same_others k v C [] there none = refl
same_others k v C (row ∷ rows) there none =
    ap (λ (o : Option SemaphoreRow). (row.0, unwrap_or o row.1) ∷ become (set_value (key_eq k) C v) rows) (other_name k row.0 v C none.0 there)
    ∙ ap (λ (rest : Rows). row_now C row ∷ rest) (same_others k v C rows there none.1)

pub become_set : (k : Key) (v : SemaphoreRow) (C rows : Rows) → IsSome (lookup (key_eq k) C) → IsDistinct key_eq (keys_of rows)
    → become (set_value (key_eq k) C v) rows ≡ set_value (key_eq k) (become C rows) v
become_set k v C [] there distinct = refl
become_set k v C (row ∷ rows) there distinct = by_name (key_eq k row.0) refl (become_set k v C rows there (IsDistinct-tail key_eq row.0 (keys_of rows) distinct))
  where
    by_name : (b : Bool) → key_eq k row.0 ≡ b → become (set_value (key_eq k) C v) rows ≡ set_value (key_eq k) (become C rows) v
        → become (set_value (key_eq k) C v) (row ∷ rows) ≡ cond b ((row.0, v) ∷ become C rows) (row_now C row ∷ set_value (key_eq k) (become C rows) v)
    by_name true same rest =
        ap (λ (o : Option SemaphoreRow). (row.0, unwrap_or o row.1) ∷ become (set_value (key_eq k) C v) rows) (own_name k row.0 v C same there)
        ∙ ap (λ (rest : Rows). (row.0, v) ∷ rest) (same_others k v C rows there (none_past_head keys_equal k row rows distinct same))
    by_name false apart rest =
        ap (λ (o : Option SemaphoreRow). (row.0, unwrap_or o row.1) ∷ become (set_value (key_eq k) C v) rows) (other_name k row.0 v C apart there)
        ∙ ap (λ (l : Rows). row_now C row ∷ l) rest

-- the names stay
pub become_keys : (C rows : Rows) → keys_of (become C rows) ≡ keys_of rows
become_keys C [] = refl
become_keys C (row ∷ rows) = ap (λ (ks : List Key). row.0 ∷ ks) (become_keys C rows)

-- a row that has become another is found so, where its name is there
pub become_found : (k : Key) (v : SemaphoreRow) (C rows : Rows) → lookup (key_eq k) C ≡ Some v → IsSome (lookup (key_eq k) rows) → lookup (key_eq k) (become C rows) ≡ Some v
become_found k v C [] is there = absurd (cc there)
become_found k v C (row ∷ rows) is there = by_name (key_eq k row.0) refl there (λ h. become_found k v C rows is h)
  where
    by_name : (b : Bool) → key_eq k row.0 ≡ b → IsSome (cond b (Some row.1) (lookup (key_eq k) rows))
        → (IsSome (lookup (key_eq k) rows) → lookup (key_eq k) (become C rows) ≡ Some v) → cond b (Some (row_now C row).1) (lookup (key_eq k) (become C rows)) ≡ Some v
    by_name true same h later = ap (λ (q : Key). Some (unwrap_or (lookup (key_eq q) C) row.1)) (sym ((key_eq_tells k row.0).0 same)) ∙ ap (λ (o : Option SemaphoreRow). Some (unwrap_or o row.1)) is
    by_name false apart h later = later h

-- ---- one more that has become another

flipped : (a b : Key) (t : Bool) → key_eq a b ≡ t → key_eq b a ≡ t
flipped a b t e = keys_equal.symm b a ∙ e

more_others : (k : Key) (v : SemaphoreRow) (C rows : Rows) → NonePasses (key_eq k) rows → become ((k, v) ∷ C) rows ≡ become C rows
more_others k v C [] none = refl
more_others k v C (row ∷ rows) none =
    ap (λ (b : Bool). (row.0, unwrap_or (cond b (Some v) (lookup (key_eq row.0) C)) row.1) ∷ become ((k, v) ∷ C) rows) (flipped k row.0 false none.0)
    ∙ ap (λ (rest : Rows). row_now C row ∷ rest) (more_others k v C rows none.1)

pub become_more : (k : Key) (v : SemaphoreRow) (C rows : Rows) → NonePasses (key_eq k) C → IsDistinct key_eq (keys_of rows) → become C (set_value (key_eq k) rows v) ≡ become ((k, v) ∷ C) rows
become_more k v C [] none distinct = refl
become_more k v C (row ∷ rows) none distinct = by_name (key_eq k row.0) refl (become_more k v C rows none (IsDistinct-tail key_eq row.0 (keys_of rows) distinct))
  where
    by_name : (b : Bool) → key_eq k row.0 ≡ b → become C (set_value (key_eq k) rows v) ≡ become ((k, v) ∷ C) rows → become C (cond b ((row.0, v) ∷ rows) (row ∷ set_value (key_eq k) rows v)) ≡ become ((k, v) ∷ C) (row ∷ rows)
    by_name true same later =
        let unnamed : lookup (key_eq row.0) C ≡ None = ap (λ (q : Key). lookup (key_eq q) C) (sym ((key_eq_tells k row.0).0 same)) ∙ lookup-none (key_eq k) C none in
        ap (λ (o : Option SemaphoreRow). (row.0, unwrap_or o v) ∷ become C rows) unnamed
        ∙ ap (λ (rest : Rows). (row.0, v) ∷ rest) (sym (more_others k v C rows (none_past_head keys_equal k row rows distinct same)))
        ∙ ap (λ (b : Bool). (row.0, unwrap_or (cond b (Some v) (lookup (key_eq row.0) C)) row.1) ∷ become ((k, v) ∷ C) rows) (sym (flipped k row.0 true same))
    by_name false apart later =
        ap (λ (rest : Rows). row_now C row ∷ rest) later
        ∙ ap (λ (b : Bool). (row.0, unwrap_or (cond b (Some v) (lookup (key_eq row.0) C)) row.1) ∷ become ((k, v) ∷ C) rows) (sym (flipped k row.0 false apart))

-- a row at a place is the one of the name there
pub set_at_name : (p : ℕ) (k : Key) (v : SemaphoreRow) (rows : Rows) → slice_get (keys_of rows) p ≡ Some k → IsDistinct key_eq (keys_of rows) → set_value_at rows p v ≡ set_value (key_eq k) rows v
set_at_name zero k v [] at distinct = absurd (cc at)
set_at_name (suc p) k v [] at distinct = absurd (cc at)
set_at_name zero k v (row ∷ rows) at distinct =
    let same : row.0 ≡ k = cc at in
    ap (λ (b : Bool). cond b ((row.0, v) ∷ rows) (row ∷ set_value (key_eq k) rows v)) (sym (subst (λ (q : Key). key_eq q row.0 ≡ true) same (itself row.0)))
set_at_name (suc p) k v (row ∷ rows) at distinct =
    let apart : key_eq row.0 k ≡ false = later p (keys_of rows) at (IsDistinct-head key_eq row.0 (keys_of rows) distinct) in
    ap (λ (rest : Rows). row ∷ rest) (set_at_name p k v rows at (IsDistinct-tail key_eq row.0 (keys_of rows) distinct))
    ∙ ap (λ (b : Bool). cond b ((row.0, v) ∷ rows) (row ∷ set_value (key_eq k) rows v)) (sym (flipped row.0 k false apart))
  where
    later : (p : ℕ) (ks : List Key) → slice_get ks p ≡ Some k → AllByRecursion (λ y. key_eq row.0 y ≡ false) ks → key_eq row.0 k ≡ false
    later zero [] e all = absurd (cc e)
    later (suc p) [] e all = absurd (cc e)
    later zero (y ∷ ks) e all = let same : y ≡ k = cc e in ap (key_eq row.0) (sym same) ∙ all.0
    later (suc p) (y ∷ ks) e all = later p ks e all.1

-- past the end nothing is put
pub set_past : (rows : Rows) (p : ℕ) (v : SemaphoreRow) → slice_get (values_of rows) p ≡ None → set_value_at rows p v ≡ rows
set_past [] zero v past = refl
set_past [] (suc p) v past = refl
set_past (row ∷ rows) zero v past = absurd (cc past)
set_past (row ∷ rows) (suc p) v past = ap (λ (rest : Rows). row ∷ rest) (set_past rows p v past)
