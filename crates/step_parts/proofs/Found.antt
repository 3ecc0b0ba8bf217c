-- What was found of octets, by the part that is held; and one of two ways.
use Rattle.std.specs.Prelude.{◌≡◌, ℕ, Option, None, Some, List}
use Rattle.std.specs.Prelude.{Result, Ok, Err, IfOk, IfNone, IfSome, OnSome, OnErr}
use Rattle.std.proofs.Common.{ap, sym, ◌∙◌, subst}
use Rattle.mms_types.specs.declared.event.CellEvent.TheVariants.{Heard}
use Rattle.association.specs.Client.{ClientRow, Client as RoomyRow}
use Rattle.part_table.specs.Held.{held_at}
use Rattle.step_parts.specs.declared.part.Part.{Part}
use Rattle.step_parts.specs.declared.part.Part.TheVariants.{Client}
use Rattle.cell_client.specs.Association.{verdict}
use Rattle.cell_client.specs.declared.verdict.Found.{Found}
use Rattle.cell_client.specs.Meant.{meant}
use Rattle.step_parts.specs.Found.{row_held, IsFoundOf}
use Rattle.step_parts.specs.Partition.{client_in, client_place, row_in, IsClient}

-- ---- what octets come to

-- the row of a part that is held
pub row_of_held : (hand : List (Option Part)) (client : ℕ) (part : RoomyRow) → held_at hand (client_place client) ≡ Some (Client part) → part.row ≡ row_held hand client
row_of_held hand client part held = ap row_in (sym held)

-- a client's part is held
pub is_client : (hand : List (Option Part)) (client : ℕ) (part : RoomyRow) → held_at hand (client_place client) ≡ Some (Client part) → IsClient (held_at hand (client_place client))
is_client hand client part held = held ∙ ap (λ (o : Option Part). Some (Client (client_in o))) (sym held)

-- what is found for an event is so of its octets
pub found_heard : (found : Option Found) (hand : List (Option Part)) (client : ℕ) (octets given : List ℕ) → IsFoundOf found (Heard client octets) hand → given ≡ octets
    → IfSome found (λ f. meant f ≡ verdict (row_held hand client) given)
found_heard None hand client octets given of same = tt
found_heard (Some f) hand client octets given of same = of.1 ∙ ap (verdict (row_held hand client)) (sym same)

-- and by the part that is held
pub found_by_part : (found : Option Found) (hand : List (Option Part)) (client : ℕ) (part : RoomyRow) (octets : List ℕ) → held_at hand (client_place client) ≡ Some (Client part)
    → IfSome found (λ f. meant f ≡ verdict (row_held hand client) octets) → IfSome found (λ f. meant f ≡ verdict part.row octets)
found_by_part None hand client part octets held of = tt
found_by_part (Some f) hand client part octets held of = of ∙ ap (λ (r : ClientRow). verdict r octets) (sym (row_of_held hand client part held))

-- ---- one of the two

pub if_none : {A : Type 0} {P : Type 0} (o : Option A) → o ≡ None → IfNone o P → P
if_none None e there = there
if_none (Some x) e there = absurd (cc e)

pub if_some : {A : Type 0} (P : A → Type 0) (o : Option A) (x : A) → o ≡ Some x → IfSome o P → P x
if_some P None x e there = absurd (cc e)
if_some P (Some y) x e there = let same : y ≡ x = cc e in subst P same there

pub on_some : {A : Type 0} {P : Type 0} (o : Option A) (x : A) → o ≡ Some x → OnSome o P → P
on_some None x e there = absurd (cc e)
on_some (Some y) x e there = there

pub if_ok_then : {A E : Type 0} {P Q : A → Type 0} (result : Result A E) → ((x : A) → P x → Q x) → IfOk result P → IfOk result Q
if_ok_then (Ok x) next there = next x there
if_ok_then (Err e) next there = tt

pub none_then : {A : Type 0} {P Q : Type 0} (o : Option A) → (P → Q) → IfNone o P → IfNone o Q
none_then None next there = next there
none_then (Some x) next there = tt

pub some_then : {A : Type 0} {P Q : A → Type 0} (o : Option A) → ((x : A) → P x → Q x) → IfSome o P → IfSome o Q
some_then None next there = tt
some_then (Some x) next there = next x there

pub on_some_then : {A : Type 0} {P Q : Type 0} (o : Option A) → (P → Q) → OnSome o P → OnSome o Q
on_some_then None next there = tt
on_some_then (Some x) next there = next there

pub on_err_three : {A E : Type 0} {P Q R S : Type 0} (result : Result A E) → (P → Q → R → S) → OnErr result P → OnErr result Q → OnErr result R → OnErr result S
on_err_three (Ok x) next p q r = tt
on_err_three (Err e) next p q r = next p q r
