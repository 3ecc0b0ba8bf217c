-- Names that are gone through one after the other: one name more.
use Rattle.std.proofs.Common.{◌≡◌, ◌∙◌, ap, sym, refl, ℕ, ◌≤◌, Bool, true, false, cond, not, List, [], ◌∷◌, ◌++◌, append-nil, map, if◌then◌else◌, Option, None, Some, arith}
use Rattle.std.specs.List.{list_any}
use Rattle.mms_types.specs.Order.{key_eq, key_of}
use Rattle.mms_types.specs.declared.key.Key.{Key}
use Rattle.mms_types.specs.declared.moment.Moment.{Moment}
use Rattle.mms_types.specs.declared.object_name.ObjectName.{ObjectName}
use Rattle.object_names.specs.Borrowed.{key_meant}
use Rattle.object_names.specs.BorrowedHash.{borrowed_eq}
use Rattle.object_names.specs.Deletion.{mentioned}
use Rattle.object_names.specs.declared.borrowed.KeyRef.{KeyRef}
use Rattle.object_names.proofs.Gathered.{has_alike}
use Rattle.object_names.proofs.Mentioned.{mentioned_more}
use Rattle.event_cond.specs.Conditions.{Rows, named}
use Rattle.event_cond.specs.Deletion.{deletion_turn, deletions, deletions_of}
use Rattle.event_cond.specs.declared.condition.Condition.{Condition}

-- ---- what is told of deletions

deletions_with : (now : Moment) (keys : List Key) (key : Key) (rows : Rows)
    → deletions_of now (keys ++ key ∷ []) rows ≡ deletions_of now keys rows ++ deletions_of now (key ∷ []) rows
deletions_with now [] key rows = refl
deletions_with now (k ∷ keys) key rows = by_first (named k rows) refl (deletions_with now keys key rows)
  where
    by_first : (o : Option Condition) → named k rows ≡ o → deletions_of now (keys ++ key ∷ []) rows ≡ deletions_of now keys rows ++ deletions_of now (key ∷ []) rows
        → deletions_of now (k ∷ keys ++ key ∷ []) rows ≡ deletions_of now (k ∷ keys) rows ++ deletions_of now (key ∷ []) rows
    by_first None same later = rw same later
    by_first (Some c) same later = rw same (ap (λ l. deletion_turn now k c ∷ l) later)

-- one name more: it was mentioned before, or is new
mentioned_next : (client : ℕ) (names : List ObjectName) (name : ObjectName) (there : Bool) → list_any (key_eq (key_of client name)) (mentioned client names) ≡ there
    → mentioned client (names ++ name ∷ []) ≡ cond there (mentioned client names) (mentioned client names ++ key_of client name ∷ [])
mentioned_next client names name there e =
    sym (mentioned_more client names name (key_of client name) refl)
    ∙ ap (λ (b : Bool). cond b (mentioned client names) (mentioned client names ++ key_of client name ∷ [])) e

told_more : (client : ℕ) (now : Moment) (names : List ObjectName) (name : ObjectName) (rows : Rows) (new : Bool) → list_any (key_eq (key_of client name)) (mentioned client names) ≡ not new
    → deletions client now (names ++ name ∷ []) rows ≡ deletions client now names rows ++ (if new then deletions_of now (key_of client name ∷ []) rows else [])
told_more client now names name rows true e =
    ap (λ (ks : List Key). deletions_of now ks rows) (mentioned_next client names name false e) ∙ deletions_with now (mentioned client names) (key_of client name) rows
told_more client now names name rows false e =
    ap (λ (ks : List Key). deletions_of now ks rows) (mentioned_next client names name true e) ∙ sym (append-nil (deletions client now names rows))

-- what is told with one name more, by whether the set takes it
pub told_next : (client : ℕ) (now : Moment) (names : List ObjectName) (name : ObjectName) (set : List KeyRef) (new : KeyRef) (rows : Rows) (added : Bool)
    → map key_meant set ≡ mentioned client names → key_meant new ≡ key_of client name → added ≡ not (list_any (borrowed_eq new) set)
    → deletions client now (names ++ name ∷ []) rows ≡ deletions client now names rows ++ (if added then deletions_of now (key_of client name ∷ []) rows else [])
told_next client now names name set new rows added is same add =
    told_more client now names name rows added
    (ap (λ (k : Key). list_any (key_eq k) (mentioned client names)) (sym same)
    ∙ ap (λ (ks : List Key). list_any (key_eq (key_meant new)) ks) (sym is)
    ∙ sym (has_alike set new)
    ∙ sym (not_not (list_any (borrowed_eq new) set))
    ∙ ap not (sym add))
  where
    not_not : (b : Bool) → not (not b) ≡ b
    not_not true = refl
    not_not false = refl

pub at_most_one : (b : Bool) → (if b then 1 else 0) ≤ 1
at_most_one true = omega arith
at_most_one false = omega arith
