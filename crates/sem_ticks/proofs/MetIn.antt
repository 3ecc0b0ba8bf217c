-- A deadline is met on a draft as on all semaphores.
use Rattle.std.proofs.Common.{◌≡◌, ◌∙◌, ap, refl, sym, subst, Bool, true, false, not, List, [], ◌++◌, append-nil, append_assoc, set, slice_get, Option, Some, IsSome, option_and_then, option_map}
use Rattle.std.specs.List.{IsDistinct}
use Rattle.std.specs.Map.{keys_of, lookup, set_value}
use Rattle.mms_types.specs.Order.{key_eq}
use Rattle.mms_types.specs.declared.key.Key.{Key}
use Rattle.mms_types.proofs.Precedence.{key_eq_tells}
use Rattle.token_sem.specs.declared.entry.Expired.{Expired}
use Rattle.mms_time.specs.Deadlines.{NamedDeadline, expire_after, expired, expired_in, without_due}
use Rattle.mms_time.specs.Loss.{lost}
use Rattle.mms_time.specs.Semaphores.{Rows, changed_row, changed_to}
use Rattle.mms_time.specs.declared.row.SemaphoreRow.{SemaphoreRow}
use Rattle.sem_ticks.specs.Drafts.{become, drafted, named, next_named}
use Rattle.sem_ticks.specs.Meant.{drafting_of, IsMet}
use Rattle.sem_ticks.specs.Ticks.{Ticking, abort_told, after_abort, expiry_told, met, met_as}
use Rattle.sem_ticks.specs.declared.drafts.Draft.{Draft}
use Rattle.sem_ticks.specs.declared.drafts.Next.{Next}
use Rattle.sem_ticks.specs.declared.ticks.Happening.{Happening}
use Rattle.sem_ticks.proofs.Become.{become_found, become_set, own_name}
use Rattle.sem_ticks.proofs.Drafting.{set_named}
use Rattle.sem_ticks.proofs.NextOf.{of_map, place_stands, row_of_name}

module _ (rows : Rows) (ds : List Draft) (happened told : List Happening) (d e : Draft) (n : Next) (x : Expired)
    (distinct : IsDistinct key_eq (keys_of rows))
    (own : IsDistinct key_eq (keys_of (drafted ds)))
    (at : slice_get ds n.place ≡ Some d)
    (name : d.key.now ≡ n.due.key.now)
    (there : IsSome (lookup (key_eq d.key.now) rows))
    (is : expired_in n.due.entry d.row ≡ Some x)
    (row : e.row ≡ changed_row (without_due n.due.entry n.due.at) d.row)
    (key : e.key.now ≡ d.key.now)
    (tells : (r : Rows) → lookup (key_eq e.key.now) r ≡ Some e.row → told ≡ happened ++ expiry_told r e.key.now x) where
  abbrev k : Key
  k = d.key.now

  abbrev now : Rows
  now = become (drafted ds) rows

  found : lookup (key_eq k) (drafted ds) ≡ Some d.row
  found = row_of_name (drafted ds) k d.row own (of_map named ds d (place_stands ds n.place d at))

  found_now : lookup (key_eq k) now ≡ Some d.row
  found_now = become_found k d.row (drafted ds) rows found there

  abbrev due : NamedDeadline
  due = record { at = n.due.at; kind = n.due.kind; key = k; entry = n.due.entry }

  expires : expired k n.due.entry now ≡ Some x
  expires = ap (option_and_then (expired_in n.due.entry)) found_now ∙ is

  abbrev then_rows : Rows
  then_rows = expire_after k n.due.entry n.due.at now

  as_set : then_rows ≡ set_value (key_eq k) now e.row
  as_set =
      ap (λ (o : Option SemaphoreRow). changed_to o (without_due n.due.entry n.due.at) k now) found_now
      ∙ ap (set_value (key_eq k) now) (sym row)

  as_draft : then_rows ≡ become (drafted (set ds n.place e)) rows
  as_draft =
      as_set
      ∙ sym (become_set k e.row (drafted ds) rows (subst IsSome (sym found) refl) distinct)
      ∙ ap (λ (c : Rows). become c rows) (sym (set_named n.place d e key ds at own))

  itself : key_eq k k ≡ true
  itself = (key_eq_tells k k).1 refl

  found_then : lookup (key_eq e.key.now) then_rows ≡ Some e.row
  found_then =
      ap (λ (q : Key). lookup (key_eq q) then_rows) key
      ∙ ap (lookup (key_eq k)) as_set
      ∙ own_name k k e.row now itself (subst IsSome (sym found_now) refl)

  tells_all : told ≡ happened ++ expiry_told (become (drafted (set ds n.place e)) rows) k x
  tells_all =
      tells then_rows found_then
      ∙ ap (λ (q : Key). happened ++ expiry_told then_rows q x) key
      ∙ ap (λ (r : Rows). happened ++ expiry_told r k x) as_draft

  pub met_in : IsMet (drafting_of rows ds happened) (next_named n) x (drafting_of rows (set ds n.place e) told)
  met_in =
      subst (λ (q : Key). IsMet (drafting_of rows ds happened) (record { at = n.due.at; kind = n.due.kind; key = q; entry = n.due.entry }) x (drafting_of rows (set ds n.place e) told)) name
      (record { found = expires; rows = sym as_draft; told = tells_all })

-- ---- and the client is aborted or not

pub turned : (b : Bool) → not b ≡ true → b ≡ false
turned true e = absurd (cc e)
turned false e = refl

pub turned_back : (b : Bool) → not b ≡ false → b ≡ true
turned_back true e = refl
turned_back false e = absurd (cc e)

module _ (s t : Ticking) (d : NamedDeadline) (x : Expired) (is : IsMet s d x t) where
  abbrev ends : Rows
  ends = expire_after d.key d.entry d.at s.rows

  abbrev with_abort : Bool → Ticking
  with_abort b = record { rows = after_abort b x.client d.at ends; happened = s.happened ++ (expiry_told ends d.key x ++ abort_told b x.client d.at ends) }

  by_abort : (b : Bool) → x.abort ≡ b → met s d ≡ Some (with_abort b)
  by_abort b e = ap (option_map (met_as s d)) is.found ∙ ap (λ (b : Bool). Some (with_abort b)) e

  told_so : s.happened ++ expiry_told ends d.key x ≡ t.happened
  told_so = ap (λ (r : Rows). s.happened ++ expiry_told r d.key x) (sym is.rows) ∙ sym is.told

  pub met_still : x.abort ≡ false → met s d ≡ Some t
  met_still stays = by_abort false stays ∙ ap Some (λ i. record { rows = sym is.rows i; happened = all i })
    where
      all : s.happened ++ (expiry_told ends d.key x ++ []) ≡ t.happened
      all = ap (λ (l : List Happening). s.happened ++ l) (append-nil (expiry_told ends d.key x)) ∙ told_so

  -- the client is lost
  pub met_lost : x.abort ≡ true → (rows : Rows) → rows ≡ lost x.client d.at t.rows → (told : List Happening) → told ≡ t.happened ++ abort_told true x.client d.at t.rows
      → met s d ≡ Some (record { rows = rows; happened = told })
  met_lost aborts rows as_lost told as_told = by_abort true aborts ∙ ap Some (λ i. record { rows = same i; happened = all i })
    where
      same : lost x.client d.at ends ≡ rows
      same = ap (lost x.client d.at) (sym is.rows) ∙ sym as_lost

      all : s.happened ++ (expiry_told ends d.key x ++ abort_told true x.client d.at ends) ≡ told
      all =
          ap (λ (r : Rows). s.happened ++ (expiry_told ends d.key x ++ abort_told true x.client d.at r)) (sym is.rows)
          ∙ sym (append_assoc s.happened (expiry_told ends d.key x) (abort_told true x.client d.at t.rows))
          ∙ ap (λ (l : List Happening). l ++ abort_told true x.client d.at t.rows) told_so
          ∙ sym as_told
