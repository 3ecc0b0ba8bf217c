-- No more requests of the server are unanswered by a client than its association allows, after any history.
use Rattle.std.specs.Prelude.{◌≡◌, ℕ, zero, suc, ◌+◌, ◌≤◌, ◌<◌, ◌==◌, ◌⊎◌, Bool, true, false, not, cond, Option, None, Some, List, [], ◌∷◌, length, map, option_map, slice_get, unwrap_or, refl}
use Rattle.std.proofs.Common.{inl, inr, ap, sym, subst, arith}
use Rattle.std.proofs.lemmas.Bool.Decides.{nat_tests}
use Rattle.std.proofs.lemmas.List.{length_push}
use Rattle.mms_types.specs.Actors.{clients_to}
use Rattle.mms_types.specs.declared.asked.Asked.{Asked}
use Rattle.mms_types.specs.declared.asked.Asked.TheVariants as asks
use Rattle.mms_types.specs.declared.event.CellEvent.{CellEvent}
use Rattle.association.specs.Asked.{asked_of, row_asked, unsettled}
use Rattle.association.specs.Client.{ClientRow, new_row}
use Rattle.association.specs.declared.negotiation.Association.TheVariants.{Idle}
use Rattle.association.specs.declared.unanswered.Unanswered.{Unanswered}
use Rattle.cell_config.specs.declared.config.Config.{Config}
use Rattle.cell_config.specs.Said.{IsConfig}
use Rattle.domain_load.specs.Domains.{Rows}
use Rattle.domain_load.specs.Loading.{asked_next}
use Rattle.parted_state.specs.Served.{delivered, row_at}
use Rattle.cell_client.specs.Effects.{Asks, Effect, Settles, felt_all, tell}
use Rattle.serve_domains.specs.Domains.{asks_next, calling_of, reply_of, reply_told}
use Rattle.step_sound.proofs.Sound.{start_sound}
use Rattle.step_parts.specs.Partition.{cell, no_client}
use Rattle.step_parts.specs.State.{device_of, start}
use Rattle.step_parts.specs.Step.{replay}
use Rattle.cell_laws.specs.Loads.{LoadStep}
use Rattle.cell_laws.proofs.LoadMeant.{IsSpared}
use Rattle.cell_laws.proofs.LoadRows.{AllRows, plain_rows, told_rows}
use Rattle.cell_laws.proofs.LoadWalk.{IsKept, kept_along}

-- so few are asked of a client
abbrev IsFew : ℕ → ClientRow → Type 0
IsFew client row = length row.asked ≤ calling_of row.association

abbrev AreFew : List LoadStep → Rows → List ClientRow → Type 0
AreFew log d rows = AllRows IsFew rows

-- ---- rows that are answered

fewer : (number : ℕ) (rows : List Unanswered) → length (unsettled number rows) ≤ length rows
fewer number [] = omega arith
fewer number (row ∷ rows) = by_test (row.invoke == number) (fewer number rows)
  where
    by_test : (b : Bool) → length (unsettled number rows) ≤ length rows → length (cond (not b) (row ∷ unsettled number rows) (unsettled number rows)) ≤ length (row ∷ rows)
    by_test true few = omega (arith, few)
    by_test false few = omega (arith, few)

-- where one of that number is there
one_fewer : (number : ℕ) (rows : List Unanswered) (of : Asked × List ℕ) → asked_of number rows ≡ Some of → length (unsettled number rows) + 1 ≤ length rows
one_fewer number [] of found = absurd (cc found)
one_fewer number (row ∷ rows) of found = by_test (row.invoke == number) (fewer number rows) (one_fewer number rows of) found
  where
    by_test : (b : Bool) → length (unsettled number rows) ≤ length rows → (asked_of number rows ≡ Some of → length (unsettled number rows) + 1 ≤ length rows)
        → option_map (λ (u : Unanswered). (u.kind, u.domain)) (cond b (Some row) (row_asked number rows)) ≡ Some of
        → length (cond (not b) (row ∷ unsettled number rows) (unsettled number rows)) + 1 ≤ length (row ∷ rows)
    by_test true few later e = omega (arith, few)
    by_test false few later e = let l = later e in omega (arith, l)

-- ---- each thing that is done

few_spared : (row : ClientRow) (effects : List Effect) → IsSpared row effects → length row.asked ≤ calling_of row.association
    → length (felt_all effects row).asked ≤ calling_of (felt_all effects row).association
few_spared row effects is few = by_opened is.opened
  where
    less : (x : ((felt_all effects row).asked ≡ row.asked) ⊎ ((number : ℕ) × ((felt_all effects row).asked ≡ unsettled number row.asked)))
        → length (felt_all effects row).asked ≤ length row.asked
    less (inl same) = let l = ap (λ (us : List Unanswered). length us) same in omega (arith, l)
    less (inr settled) = let l = ap (λ (us : List Unanswered). length us) settled.1 in let f = fewer settled.0 row.asked in omega (arith, l, f)

    by_opened : (x : ((felt_all effects row).association ≡ row.association) ⊎ (row.association ≡ Idle))
        → length (felt_all effects row).asked ≤ calling_of (felt_all effects row).association
    by_opened (inl same) = let l = less is.asked in let c = ap calling_of same in omega (arith, l, c, few)
    by_opened (inr idle) = let l = less is.asked in let c = ap calling_of idle in omega (arith, l, c, few)

few_next : (k number : ℕ) (next : Option Asked) (name : List ℕ) (row : ClientRow) → length (unsettled number row.asked) + 1 ≤ length row.asked
    → length row.asked ≤ calling_of row.association
    → length (felt_all (reply_told number next name) row).asked ≤ calling_of (felt_all (reply_told number next name) row).association
few_next k number None name row one few = omega (arith, one, few)
few_next k number (Some kind) name row one few =
    let l = length_push (unsettled number row.asked) (record { invoke = row.next_invoke; kind = kind; domain = name }) in omega (arith, l, one, few)

pub as_told : (client number : ℕ) (next : Option Asked) (domain : List ℕ) → (client, Settles number) ∷ asks_next client next domain ≡ tell client (reply_told number next domain)
as_told client number None domain = refl
as_told client number (Some kind) domain = refl

few_kept : IsKept AreFew
few_kept = record {
  plain = λ log d told rows plain all.
      plain_rows IsFew (λ client b a like few. let l = ap (λ (us : List Unanswered). length us) like.asked in let c = ap calling_of like.association in omega (arith, l, c, few))
      told rows plain all;
  spared = λ log d rows k row effects there apart meant all.
      told_rows IsFew IsFew effects rows k all (λ other r ne few. few)
      (λ r at. let same : row ≡ r = cc (there, at) in
      subst (λ (x : ClientRow). IsFew (suc k) (felt_all effects x)) same (few_spared row effects meant.1 (all k row there)));
  closed = λ log d rows k effects none all.
      told_rows IsFew IsFew effects rows k all (λ other r ne few. few)
      (λ r at. let l = ap (λ (us : List Unanswered). length us) (none r) in omega (arith, l));
  nobody = λ log d rows all. all;
  begun = λ log d rows k left x room none all.
      told_rows IsFew IsFew (Asks asks.Segment x.domain ∷ []) rows k all (λ other r ne few. few)
      (λ r at.
      let l = length_push r.asked (record { invoke = r.next_invoke; kind = asks.Segment; domain = x.domain }) in
      let free = room r at in
      let less : length r.asked < calling_of r.association = grind (arith, nat_tests, free) in
      omega (arith, l, less));
  deleted = λ log d rows name none all. all;
  used = λ log d rows name f of all. all;
  replied = λ log d rows k row number came there apart is all.
      let next = asked_next (reply_of came (is.kind, is.name)) d in
      subst (λ (told : List (ℕ × Effect)). AllRows IsFew (delivered cell told rows)) (sym (as_told (suc k) number next is.name))
      (told_rows IsFew IsFew (reply_told number next is.name) rows k all (λ other r ne few. few)
      (λ r at. let same : row ≡ r = cc (there, at) in
      subst (λ (x : ClientRow). IsFew (suc k) (felt_all (reply_told number next is.name) x)) same
      (few_next k number next is.name row (one_fewer number row.asked (is.kind, is.name) is.asked) (all k row there))));
}

-- ---- the start

none_at_first : (clients : List ℕ) (config : Config) (i : ℕ) (row : ClientRow) → slice_get (map (λ c. new_row c (device_of config)) clients) i ≡ Some row → row.asked ≡ []
none_at_first [] config i row there = absurd (cc there)
none_at_first (c ∷ clients) config zero row there = let same : new_row c (device_of config) ≡ row = cc there in sym (ap (λ (r : ClientRow). r.asked) same)
none_at_first (c ∷ clients) config (suc i) row there = none_at_first clients config i row there

pub first_asked : (config : Config) (i : ℕ) (row : ClientRow) → slice_get (start config).clients i ≡ Some row → row.asked ≡ []
first_asked config i row there = none_at_first (clients_to config.clients) config i row there

few_first : (config : Config) → AllRows IsFew (start config).clients
few_first config i row there = let l = ap (λ (us : List Unanswered). length us) (first_asked config i row there) in omega (arith, l)

few_at : (rows : List ClientRow) (client : ℕ) → AllRows IsFew rows → IsFew client (row_at cell client rows)
few_at rows zero all = omega arith
few_at rows (suc k) all = by_row (slice_get rows k) refl
  where
    by_row : (o : Option ClientRow) → slice_get rows k ≡ o → IsFew (suc k) (unwrap_or o no_client)
    by_row None e = omega arith
    by_row (Some row) e = all k row e

pub replay_few : (config : Config) (history : List CellEvent) (client : ℕ) → IsConfig config
    → length (row_at cell client (replay config history).clients).asked ≤ calling_of (row_at cell client (replay config history).clients).association
replay_few config history client is =
    few_at (replay config history).clients client (kept_along AreFew few_kept 0 (start config) [] history (start_sound config is) (few_first config))
