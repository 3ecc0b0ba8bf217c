-- What requests for semaphores do keeps what holds of them.
use Rattle.std.proofs.Common.{◌≡◌, ℕ, zero, suc, Bool, true, false, List, [], ◌∷◌, Option, None, Some, is_some, option_and_then, option_map, if◌then◌else◌, refl, sym, ◌∙◌, ap, subst, arith}
use Rattle.std.specs.List.{All, IsDistinct}
use Rattle.std.specs.Map.{keys_of, values_of}
use Rattle.std.proofs.lemmas.List.{map-append}
use Rattle.std.proofs.lemmas.List.Elements.{All-append}
use Rattle.std.proofs.lemmas.Map.Keys.{IsDistinct-push}
use Rattle.std.proofs.lemmas.Map.Made.{is_some-lookup}
use Rattle.std.proofs.lemmas.Map.Views.{All-map-remove_entry}
use Rattle.mms_types.specs.KeyLaws.{keys_equal}
use Rattle.mms_types.specs.Order.{key_eq, key_of}
use Rattle.mms_types.specs.declared.key.Key.{Key}
use Rattle.mms_types.specs.declared.moment.Moment.{Moment}
use Rattle.mms_types.specs.declared.semaphore.DefineSemaphore.{DefineSemaphore}
use Rattle.mms_types.specs.declared.semaphore.TakeControl.{TakeControl}
use Rattle.object_names.proofs.Distinct.{distinct_removed}
use Rattle.token_sem.specs.Semaphore.{IsSem, is_queued, numbered}
use Rattle.token_sem.specs.declared.entry.SemEntry.{SemEntry}
use Rattle.token_sem.proofs.Keeping.{cancel-keeps, relinquish-keeps}
use Rattle.token_sem.proofs.Taking.{take-keeps}
use Rattle.mms_time.specs.Semaphores.{IsSound, Rows, entries_in, entries_of, entry_in, entry_waits}
use Rattle.mms_time.specs.Services.{ask_of, cancel_after, cancelled, define_after, define_cause, deleted, new_semaphore, place_asked, relinquished, take_after, with_take, with_token_back, without_entry}
use Rattle.mms_time.proofs.Defined.{put_distinct, put_each}
use Rattle.mms_time.specs.declared.row.Semaphore.{Semaphore}
use Rattle.mms_time.specs.declared.row.Semaphore.TheVariants.{Token, Pool}
use Rattle.pool_sem.specs.Pools.{is_place}
use Rattle.pool_sem.proofs.Taking as pool-take
use Rattle.pool_sem.proofs.Freeing as pool-free
use Rattle.std.specs.Prelude.{length, nat_eq, nat_lt}
use Rattle.std.specs.List.{position_or_len}
use Rattle.std.specs.Cmp.Lexicographic.{pointwise}
use Rattle.mms_time.specs.declared.row.SemaphoreRow.{SemaphoreRow}
use Rattle.mms_time.proofs.Unopposed.{nothing_against}
use Rattle.sem_ticks.specs.Sound.{AreSound}
use Rattle.sem_ticks.proofs.Kept.{IsSoundRow, keeps_changed}

-- a token is asked for
placed : (count place : ℕ) (b : Bool) → nat_lt place count ≡ b → is_place count (if b then Some place else None) ≡ true
placed count place true e = e
placed count place false e = refl

asked_placed : (asked : Option (List ℕ)) (tokens : List (List ℕ)) → is_place (length tokens) (place_asked asked tokens) ≡ true
asked_placed None tokens = refl
asked_placed (Some name) tokens = placed (length tokens) (position_or_len (pointwise nat_eq name) tokens) (nat_lt (position_or_len (pointwise nat_eq name) tokens) (length tokens)) refl

taken : (client invoke : ℕ) (asked : TakeControl) (now : Moment) (s : Semaphore) → IsSound s → IsSound (with_take client invoke asked now s)
taken client invoke asked now (Token s) is = take-keeps s (ask_of client invoke None asked) now is
taken client invoke asked now (Pool p) is = pool-take.take-keeps p (ask_of client invoke (place_asked asked.token p.tokens) asked) now is (asked_placed asked.token p.tokens)

pub keeps_taken : (client invoke : ℕ) (now : Moment) (asked : TakeControl) (rows : Rows) → AreSound rows → AreSound (take_after client invoke now asked rows)
keeps_taken client invoke now asked rows =
    keeps_changed (with_take client invoke asked now) (key_of client asked.name) rows (λ row found sound. taken client invoke asked now row.semaphore sound)

-- a token is given back
given_back : (client : ℕ) (token : Option (List ℕ)) (now : Moment) (s : Semaphore) → IsSound s → IsSound (with_token_back client token now s)
given_back client token now (Token s) is = relinquish-keeps s client now is
given_back client token now (Pool p) is = pool-free.relinquish-keeps p client (place_asked token p.tokens) now is

pub keeps_relinquished : (key : Key) (client : ℕ) (token : Option (List ℕ)) (now : Moment) (rows : Rows) → AreSound rows → AreSound (relinquished key client token now rows)
keeps_relinquished key client token now rows = keeps_changed (with_token_back client token now) key rows (λ row found sound. given_back client token now row.semaphore sound)

-- an entry waits no more
waits_no_more : (number : ℕ) (s : Semaphore) → option_map is_queued (numbered number (entries_in s)) ≡ Some true → IsSound s → IsSound (without_entry number s)
waits_no_more number (Token s) waits is = cancel-keeps s number is waits
waits_no_more number (Pool p) waits is = pool-free.cancel-keeps p number is waits

it_waits : (o : Option SemEntry) → entry_waits o ≡ true → option_map is_queued o ≡ Some true
it_waits None waits = absurd (cc waits)
it_waits (Some e) waits = ap Some waits

pub keeps_cancelled : (key : Key) (number : ℕ) (rows : Rows) → AreSound rows → AreSound (cancelled key number rows)
keeps_cancelled key number rows is = by_test (entry_waits (entry_in key number rows)) refl
  where
    by_test : (b : Bool) → entry_waits (entry_in key number rows) ≡ b → AreSound (if b then cancel_after key number rows else rows)
    by_test false e = is
    by_test true e =
        keeps_changed (without_entry number) key rows
        (λ row found sound. waits_no_more number row.semaphore
        (sym (ap (λ (o : Option SemaphoreRow). option_map is_queued (option_and_then (λ r. numbered number (entries_of r)) o)) found)
        ∙ it_waits (entry_in key number rows) e)
        sound) is

-- a semaphore is defined
pub keeps_defined : (live : Bool) (client : ℕ) (asked : DefineSemaphore) (rows : Rows) → define_cause live client asked rows ≡ None → AreSound rows
    → AreSound (define_after client asked rows)
keeps_defined live client asked rows none is = record {
  names = put_distinct one rows
      (subst (IsDistinct key_eq) (sym (map-append (λ e. e.0) rows (one ∷ [])))
      (IsDistinct-push keys_equal (keys_of rows) (key_of client asked.name) is.names
      (sym (is_some-lookup (key_eq (key_of client asked.name)) rows) ∙ ap is_some (nothing_against live client asked rows none))));
  each = put_each IsSoundRow one rows
      (subst (All IsSoundRow) (sym (map-append (λ e. e.1) rows (one ∷ [])))
      (All-append IsSoundRow (values_of rows) (one.1 ∷ []) is.each first));
}
  where
    one : Key × SemaphoreRow
    one = (key_of client asked.name, record { configured = false; semaphore = new_semaphore asked.tokens })

    begun : IsSem (record { tokens = asked.tokens; made = 0; entries = [] })
    begun = record { rises = omega arith; few = omega arith; served = λ free. refl }

    first : All IsSoundRow (one.1 ∷ [])
    first zero d low = begun
    first (suc k) d low = absurd (omega (arith, low))

-- a semaphore is deleted
pub keeps_deleted : (key : Key) (rows : Rows) → AreSound rows → AreSound (deleted key rows)
keeps_deleted key rows is = record {
  names = distinct_removed key_eq (key_eq key) rows is.names;
  each = All-map-remove_entry (key_eq key) (λ e. e.1) IsSoundRow rows is.each;
}

-- there is none at first
no_names : IsDistinct key_eq []
unfolding IsDistinct
no_names = tt

pub none_sound : AreSound []
none_sound = record { names = no_names; each = λ k d low. absurd (omega (arith, low)) }
