-- What holds of the row of each client, whatever clients are told.
use Rattle.std.specs.Prelude.{◌≡◌, ◌≢◌, ℕ, zero, suc, Option, None, Some, List, [], ◌∷◌, ◌++◌, slice_get, Result, Ok, Err, refl}
use Rattle.std.specs.Option.{option_map}
use Rattle.std.proofs.Common.{ap, sym, ◌∙◌, subst, arith}
use native.Mathlib.Decide.{ℕ_discrete}
use Rattle.association.specs.Admission.{admission, waiting_if}
use Rattle.association.specs.Client.{ClientRow}
use Rattle.association.specs.declared.client_part.NotAdmitted.{NotAdmitted}
use Rattle.association.specs.declared.waiting.Waiting.{Waiting}
use Rattle.parted_state.specs.ListsLaws.{get_change, get_changed}
use Rattle.parted_state.specs.Served.{change, delivered, reached}
use Rattle.sem_ticks.specs.declared.granted.Granted.{Granted}
use Rattle.cell_client.specs.Effects.{Effect, Sends, Opens, Closes, Waits, Answers, Drains, Asks, Settles, felt, felt_all, tell}
use Rattle.cell_services.specs.Services.{grant_told, grants_told}
use Rattle.step_sound.proofs.LoadsKept.{AreQuiet}
use Rattle.step_parts.proofs.PartsAfter.{told_one}
use Rattle.step_parts.specs.Partition.{cell}
use Rattle.cell_laws.proofs.Notices.{AreNotices}

-- so is the row of each client
abbrev pub AllRows : (ℕ → ClientRow → Type 0) → List ClientRow → Type 0
AllRows Q rows = (i : ℕ) (row : ClientRow) → slice_get rows i ≡ Some row → Q (suc i) row

-- ---- one client's row is changed

module _ (Q R : ℕ → ClientRow → Type 0) where
  pub changed_rows : (f : ClientRow → ClientRow) (rows : List ClientRow) (k : ℕ) → AllRows Q rows
      → ((other : ℕ) (row : ClientRow) → suc k ≢ other → Q other row → R other row)
      → ((row : ClientRow) → slice_get rows k ≡ Some row → R (suc k) (f row)) → AllRows R (change f rows k)
  changed_rows f rows k all others here i row there = by_place (ℕ_discrete i k)
    where
      by_value : (o : Option ClientRow) → slice_get rows k ≡ o → option_map f o ≡ Some row → R (suc k) row
      by_value None e is = absurd (cc is)
      by_value (Some r) e is =
          let same : f r ≡ row = cc is in
          subst (λ (x : ClientRow). R (suc k) x) same (here r e)

      by_place : Dec (i ≡ k) → R (suc i) row
      by_place (yes same) =
          subst (λ (m : ℕ). R (suc m) row) (sym same)
          (by_value (slice_get rows k) refl (sym (get_changed f rows k) ∙ ap (λ (m : ℕ). slice_get (change f rows k) m) (sym same) ∙ there))
      by_place (no other) =
          let apart : suc k ≢ suc i = λ e. other (omega (arith, e)) in
          others (suc i) row apart (all i row (sym (get_change f rows k i other) ∙ there))

  -- one client is told something
  pub told_rows : (effects : List Effect) (rows : List ClientRow) (k : ℕ) → AllRows Q rows
      → ((other : ℕ) (row : ClientRow) → suc k ≢ other → Q other row → R other row)
      → ((row : ClientRow) → slice_get rows k ≡ Some row → R (suc k) (felt_all effects row)) → AllRows R (delivered cell (tell (suc k) effects) rows)
  told_rows effects rows k all others here =
      subst (λ (l : List ClientRow). AllRows R l) (sym (told_one effects k rows)) (changed_rows (felt_all effects) rows k all others here)

-- where there is no client, nobody is told anything
change_none : (f : ClientRow → ClientRow) (rows : List ClientRow) (k : ℕ) → slice_get rows k ≡ None → change f rows k ≡ rows
change_none f [] k none = refl
change_none f (row ∷ rows) zero none = absurd (cc none)
change_none f (row ∷ rows) (suc k) none = ap (λ (l : List ClientRow). row ∷ l) (change_none f rows k none)

pub none_told : (effects : List Effect) (rows : List ClientRow) (k : ℕ) → slice_get rows k ≡ None → delivered cell (tell (suc k) effects) rows ≡ rows
none_told effects rows k none = told_one effects k rows ∙ change_none (felt_all effects) rows k none

-- ---- effects that change neither what is asked nor the association

abbrev pub IsPlain : Effect → Type 0
IsPlain (Opens values) = ⊥
IsPlain Closes = ⊥
IsPlain (Asks kind domain) = ⊥
IsPlain (Settles number) = ⊥
IsPlain (Sends output) = Unit {0}
IsPlain (Waits request) = Unit {0}
IsPlain (Answers invoke) = Unit {0}
IsPlain Drains = Unit {0}

abbrev pub ArePlain : List (ℕ × Effect) → Type 0
ArePlain [] = Unit {0}
ArePlain (t ∷ told) = IsPlain t.1 × ArePlain told

pub both_plain : (xs ys : List (ℕ × Effect)) → ArePlain xs → ArePlain ys → ArePlain (xs ++ ys)
both_plain [] ys a b = b
both_plain (x ∷ xs) ys a b = (a.0, both_plain xs ys a.1 b)

pub grants_plain : (grants : List Granted) → ArePlain (grants_told grants)
grants_plain [] = tt
grants_plain (g ∷ grants) = both_plain (grant_told g) (grants_told grants) (tt, (tt, tt)) (grants_plain grants)

-- nor does what is told of transitions
pub notices_plain : (told : List (ℕ × Effect)) → AreNotices told → ArePlain told
notices_plain [] are = tt
notices_plain (t ∷ told) are = (subst IsPlain (sym are.0.is) tt, notices_plain told are.1)

-- nor the loads
pub plain_quiet : (told : List (ℕ × Effect)) → ArePlain told → AreQuiet told
plain_quiet [] plain = tt
plain_quiet ((client, Opens values) ∷ told) plain = absurd plain.0
plain_quiet ((client, Closes) ∷ told) plain = absurd plain.0
plain_quiet ((client, Asks kind domain) ∷ told) plain = absurd plain.0
plain_quiet ((client, Settles number) ∷ told) plain = absurd plain.0
plain_quiet ((client, Sends output) ∷ told) plain = (tt, plain_quiet told plain.1)
plain_quiet ((client, Waits request) ∷ told) plain = (tt, plain_quiet told plain.1)
plain_quiet ((client, Answers invoke) ∷ told) plain = (tt, plain_quiet told plain.1)
plain_quiet ((client, Drains) ∷ told) plain = (tt, plain_quiet told plain.1)

-- the one row as the other, of these
pub record IsLike (before after : ClientRow) : Type 0 where
  pub asked : after.asked ≡ before.asked
  pub association : after.association ≡ before.association

waits_like : (may : Result Unit NotAdmitted) (request : Waiting) (row : ClientRow) → IsLike row (waiting_if may request row)
waits_like (Ok admitted) request row = record { asked = refl; association = refl }
waits_like (Err refusal) request row = record { asked = refl; association = refl }

pub plain_like : (effect : Effect) (row : ClientRow) → IsPlain effect → IsLike row (felt effect row)
plain_like (Sends output) row plain = record { asked = refl; association = refl }
plain_like (Waits request) row plain = waits_like (admission request.invoke row) request row
plain_like (Answers invoke) row plain = record { asked = refl; association = refl }
plain_like Drains row plain = record { asked = refl; association = refl }
plain_like (Opens values) row plain = absurd plain
plain_like Closes row plain = absurd plain
plain_like (Asks kind domain) row plain = absurd plain
plain_like (Settles number) row plain = absurd plain

module _ (Q : ℕ → ClientRow → Type 0) (keeps : (client : ℕ) (before after : ClientRow) → IsLike before after → Q client before → Q client after) where
  reached_rows : (client : ℕ) (effect : Effect) (rows : List ClientRow) → IsPlain effect → AllRows Q rows → AllRows Q (reached cell client effect rows)
  reached_rows zero effect rows plain all = all
  reached_rows (suc k) effect rows plain all =
      changed_rows Q Q (felt effect) rows k all (λ other row apart q. q) (λ row there. keeps (suc k) row (felt effect row) (plain_like effect row plain) (all k row there))

  pub plain_rows : (told : List (ℕ × Effect)) (rows : List ClientRow) → ArePlain told → AllRows Q rows → AllRows Q (delivered cell told rows)
  plain_rows [] rows plain all = all
  plain_rows (t ∷ told) rows plain all = plain_rows told (reached cell t.0 t.1 rows) plain.1 (reached_rows t.0 t.1 rows plain.0 all)

-- so the row of a client stays, as to these
pub plain_told : (told : List (ℕ × Effect)) (rows : List ClientRow) (k : ℕ) (row after : ClientRow) → ArePlain told → slice_get rows k ≡ Some row
    → slice_get (delivered cell told rows) k ≡ Some after → IsLike row after
plain_told told rows k row after plain there is = plain_rows Q keeps told rows plain first k after is refl
  where
    Q : ℕ → ClientRow → Type 0
    Q client r = client ≡ suc k → IsLike row r

    keeps : (client : ℕ) (b a : ClientRow) → IsLike b a → Q client b → Q client a
    keeps client b a like q same = record { asked = like.asked ∙ (q same).asked; association = like.association ∙ (q same).association }

    first : AllRows Q rows
    first i r at same =
        let place : i ≡ k = omega (arith, same) in
        let it : row ≡ r = cc (sym there ∙ ap (λ (m : ℕ). slice_get rows m) (sym place) ∙ at) in
        subst (λ (x : ClientRow). IsLike row x) it (record { asked = refl; association = refl })
