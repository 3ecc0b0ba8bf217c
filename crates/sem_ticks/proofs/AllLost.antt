-- A client is lost on each draft, and so on all semaphores.
use Rattle.std.proofs.Common.{◌≡◌, ◌∙◌, ap, refl, sym, subst, ℕ, zero, suc, ◌+◌, ◌≤◌, inl, inr, List, [], ◌∷◌, ◌++◌, append-nil, append_assoc, length, map, set, slice_get, take, Option, None, Some, Result, Ok, Err, OnOk, true, false, arith}
use Rattle.std.specs.List.{All, IsDistinct, flat_map}
use Rattle.std.specs.Map.{keys_of, lookup}
use Rattle.std.proofs.lemmas.List.{map-append}
use Rattle.std.proofs.lemmas.List.Elements.{All-cons, All-nil}
use Rattle.mms_types.specs.Order.{key_eq}
use Rattle.mms_types.specs.declared.key.Key.{Key}
use Rattle.mms_types.specs.declared.key.Scope.TheVariants.{Association}
use Rattle.mms_types.specs.declared.moment.Moment.{Moment}
use Rattle.object_names.specs.Scopes.{has_any_of}
use Rattle.token_sem.specs.declared.entry.Grant.{Grant}
use Rattle.token_sem.proofs.Least.{Stands}
use Rattle.mms_time.specs.Loss.{all_changed, grants_of, keyed, lost, semaphore_without}
use Rattle.mms_time.specs.Semaphores.{Rows, changed_row, names_in}
use Rattle.mms_time.specs.Services.{grant_answer_of}
use Rattle.mms_time.specs.declared.row.Semaphore.{Semaphore}
use Rattle.mms_time.specs.declared.row.Semaphore.TheVariants.{Token, Pool}
use Rattle.mms_time.specs.declared.row.SemaphoreRow.{SemaphoreRow}
use Rattle.object_names.proofs.Listed.{take_next}
use Rattle.mms_time.proofs.Unowned.{none_granted_by}
use Rattle.sem_ticks.specs.Drafts.{become, drafted, named, AreDrafts, HasPlace, KeepsLeast}
use Rattle.sem_ticks.specs.Granted.{all_granted, granted, lost_granted}
use Rattle.sem_ticks.specs.Losing.{draft_told, drafts_told, granted_by, has_entry, AreLost, HasNone, IsLost}
use Rattle.sem_ticks.specs.Ticks.{abort_told}
use Rattle.sem_ticks.specs.declared.drafts.Draft.{Draft}
use Rattle.sem_ticks.specs.declared.granted.Granted.{Granted}
use Rattle.sem_ticks.specs.declared.ticks.Happening.{Happening}
use Rattle.sem_ticks.specs.declared.ticks.Happening.TheVariants.{Aborts, Grants}
use Rattle.sem_ticks.proofs.Become.{become_found}
use Rattle.sem_ticks.proofs.Drafting.{draft_found, own_names}
use Rattle.sem_ticks.proofs.Gone.{none_owned, same_semaphore}
use Rattle.sem_ticks.proofs.LostIn.{drafts_same, granted_in, lost_in}
use Rattle.sem_ticks.proofs.Made.{pair_of}
use Rattle.sem_ticks.proofs.NextOf.{from_all, in_map, of_map, row_of_name}

pub on_ok : {X Y P Q : Type 0} (r : Result X Y) → OnOk r P → (P → Q) → OnOk r Q
on_ok (Ok x) p more = more p
on_ok (Err e) p more = _

module _ (client : ℕ) (now : Moment) where
  -- ---- one draft

  -- where the client has no entry
  pub not_lost : (d : Draft) → has_entry client d.row ≡ false → KeepsLeast d → IsLost client now d d
  not_lost d none least = record {
    key = refl;
    place = refl;
    row = ap (λ (s : Semaphore). record d.row { semaphore = s }) (sym (same_semaphore client now d.row.semaphore none));
    least = least;
  }

  pub none_told : (d : Draft) → has_entry client d.row ≡ false → draft_told client now d ≡ []
  none_told d none = ap (map (granted_by d.row.semaphore)) (none_granted_by client now d.row.semaphore (none_owned client _ none))

  -- tokens keep their names, so the answer is the same
  same_names : (s : Semaphore) → names_in (semaphore_without client now s) ≡ names_in s
  same_names (Token s) = refl
  same_names (Pool p) = refl

  -- ---- each draft

  pub lost_pairs : (ds es : List Draft) → AreLost client now ds es → map pair_of es ≡ map pair_of ds
  lost_pairs [] [] lost = refl
  lost_pairs [] (e ∷ es) lost = absurd lost
  lost_pairs (d ∷ ds) [] lost = absurd lost
  lost_pairs (d ∷ ds) (e ∷ es) lost =
      let one : pair_of e ≡ pair_of d = λ i. ((lost.0.key i).now, lost.0.place i) in
      ap (λ (p : Key × ℕ). p ∷ map pair_of es) one ∙ ap (λ (l : List (Key × ℕ)). pair_of d ∷ l) (lost_pairs ds es lost.1)

  pub lost_rows : (ds es : List Draft) → AreLost client now ds es → drafted es ≡ all_changed (semaphore_without client now) (drafted ds)
  lost_rows [] [] lost = refl
  lost_rows [] (e ∷ es) lost = absurd lost
  lost_rows (d ∷ ds) [] lost = absurd lost
  lost_rows (d ∷ ds) (e ∷ es) lost =
      let one : named e ≡ (d.key.now, changed_row (semaphore_without client now) d.row) = λ i. ((lost.0.key i).now, lost.0.row i) in
      ap (λ (r : Key × SemaphoreRow). r ∷ drafted es) one
      ∙ ap (λ (l : Rows). (d.key.now, changed_row (semaphore_without client now) d.row) ∷ l) (lost_rows ds es lost.1)

  pub lost_least : (ds es : List Draft) → AreLost client now ds es → All KeepsLeast es
  lost_least [] [] lost = All-nil KeepsLeast
  lost_least [] (e ∷ es) lost = absurd lost
  lost_least (d ∷ ds) [] lost = absurd lost
  lost_least (d ∷ ds) (e ∷ es) lost = All-cons KeepsLeast e es lost.0.least (lost_least ds es lost.1)

  -- ---- one after the other

  -- so many of the first have lost it, and the others are as they were
  abbrev pub AreLostUpto : ℕ → List Draft → List Draft → Type 0
  AreLostUpto zero ds es = es ≡ ds
  AreLostUpto (suc n) [] es = es ≡ []
  AreLostUpto (suc n) (d ∷ ds) [] = ⊥
  AreLostUpto (suc n) (d ∷ ds) (e ∷ es) = IsLost client now d e × AreLostUpto n ds es

  pub lost_length : (n : ℕ) (ds es : List Draft) → AreLostUpto n ds es → length es ≡ length ds
  lost_length zero ds es lost = ap length lost
  lost_length (suc n) [] es lost = ap length lost
  lost_length (suc n) (d ∷ ds) [] lost = absurd lost
  lost_length (suc n) (d ∷ ds) (e ∷ es) lost = ap suc (lost_length n ds es lost.1)

  -- the next is as it was
  pub next_is : (n : ℕ) (ds es : List Draft) (d : Draft) → AreLostUpto n ds es → slice_get es n ≡ Some d → slice_get ds n ≡ Some d
  next_is zero ds es d lost at = ap (λ (l : List Draft). slice_get l zero) (sym lost) ∙ at
  next_is (suc n) [] es d lost at = ap (λ (l : List Draft). slice_get l (suc n)) (sym lost) ∙ at
  next_is (suc n) (x ∷ ds) [] d lost at = absurd lost
  next_is (suc n) (x ∷ ds) (y ∷ es) d lost at = next_is n ds es d lost.1 at

  pub lost_next : (n : ℕ) (ds es : List Draft) (d e : Draft) → AreLostUpto n ds es → slice_get es n ≡ Some d → IsLost client now d e → AreLostUpto (n + 1) ds (set es n e)
  lost_next n ds es d e lost at is = let more : n + 1 ≡ suc n = omega arith in subst (λ (m : ℕ). AreLostUpto m ds (set es n e)) (sym more) (next n ds es lost at)
    where
      next : (n : ℕ) (ds es : List Draft) → AreLostUpto n ds es → slice_get es n ≡ Some d → AreLostUpto (suc n) ds (set es n e)
      next zero ds [] lost at = absurd (cc at)
      next zero [] (y ∷ es) lost at = absurd (cc lost)
      next zero (x ∷ ds) (y ∷ es) lost at =
          let one : d ≡ x = (let same : y ≡ d = cc at in let its : y ≡ x = cc lost in sym same ∙ its) in
          let rest : es ≡ ds = cc lost in
          (subst (λ (z : Draft). IsLost client now z e) one is, rest)
      next (suc n) [] es lost at = absurd (cc (sym (ap (λ (l : List Draft). slice_get l (suc n)) lost) ∙ at))
      next (suc n) (x ∷ ds) [] lost at = absurd lost
      next (suc n) (x ∷ ds) (y ∷ es) lost at = (lost.0, next n ds es lost.1 at)

  pub all_lost : (n : ℕ) (ds es : List Draft) → length ds ≤ n → AreLostUpto n ds es → AreLost client now ds es
  all_lost zero [] [] end lost = tt
  all_lost zero [] (e ∷ es) end lost = absurd (cc lost)
  all_lost zero (d ∷ ds) es end lost = absurd (omega (arith, end))
  all_lost (suc n) [] [] end lost = tt
  all_lost (suc n) [] (e ∷ es) end lost = absurd (cc lost)
  all_lost (suc n) (d ∷ ds) [] end lost = absurd lost
  all_lost (suc n) (d ∷ ds) (e ∷ es) end lost = (lost.0, all_lost n ds es (omega (arith, end)) lost.1)

  -- and so it is told
  one_told : (d : Draft) → drafts_told client now (d ∷ []) ≡ draft_told client now d
  one_told d = append-nil (draft_told client now d)

  both_told : (ds : List Draft) (d : Draft) → drafts_told client now (ds ++ d ∷ []) ≡ drafts_told client now ds ++ draft_told client now d
  both_told [] d = one_told d
  both_told (x ∷ ds) d =
      ap (λ (l : List Granted). draft_told client now x ++ l) (both_told ds d)
      ∙ sym (append_assoc (draft_told client now x) (drafts_told client now ds) (draft_told client now d))

  pub told_next : (n : ℕ) (ds : List Draft) (d : Draft) (before told new : List Happening) → slice_get ds n ≡ Some d
      → told ≡ before ++ map Grants (drafts_told client now (take n ds)) → new ≡ told ++ map Grants (draft_told client now d)
      → new ≡ before ++ map Grants (drafts_told client now (take (n + 1) ds))
  told_next n ds d before told new at was is =
      is ∙ ap (λ (l : List Happening). l ++ map Grants (draft_told client now d)) was
      ∙ append_assoc before (map Grants (drafts_told client now (take n ds))) (map Grants (draft_told client now d))
      ∙ ap (λ (l : List Happening). before ++ l) (sym (map-append Grants (drafts_told client now (take n ds)) (draft_told client now d)))
      ∙ ap (λ (l : List Granted). before ++ map Grants l) (sym (both_told (take n ds) d))
      ∙ ap (λ (l : List Draft). before ++ map Grants (drafts_told client now l)) (sym (take_next ds n d at))

  -- ---- all semaphores

  -- who is granted a token in a draft is granted it in its semaphore
  granted_here : (R : Rows) (key : Key) (row : SemaphoreRow) (grants : List Grant) → lookup (key_eq key) R ≡ Some row
      → map (granted R) (keyed key grants) ≡ map (granted_by row.semaphore) grants
  granted_here R key row [] found = refl
  granted_here R key row (g ∷ grants) found =
      let one : granted R (key, g) ≡ granted_by row.semaphore g = λ i. record { client = g.client; invoke = g.invoke; answer = grant_answer_of g (found i) } in
      ap (λ (x : Granted). x ∷ map (granted R) (keyed key grants)) one
      ∙ ap (λ (l : List Granted). granted_by row.semaphore g ∷ l) (granted_here R key row grants found)

  granted_each : (R : Rows) (ds : List Draft) → ((d : Draft) → Stands ds d → lookup (key_eq d.key.now) R ≡ Some d.row)
      → map (granted R) (flat_map (λ key. keyed key (grants_of client now (lookup (key_eq key) R))) (keys_of (drafted ds))) ≡ drafts_told client now ds
  granted_each R [] found = refl
  granted_each R (d ∷ ds) found =
      let here = keyed d.key.now (grants_of client now (lookup (key_eq d.key.now) R)) in
      let rest = flat_map (λ key. keyed key (grants_of client now (lookup (key_eq key) R))) (keys_of (drafted ds)) in
      let one : map (granted R) here ≡ draft_told client now d =
      granted_here R d.key.now d.row (grants_of client now (lookup (key_eq d.key.now) R)) (found d (inl refl))
      ∙ ap (λ (o : Option SemaphoreRow). map (granted_by d.row.semaphore) (grants_of client now o)) (found d (inl refl)) in
      map-append (granted R) here rest
      ∙ ap (λ (l : List Granted). l ++ map (granted R) rest) one
      ∙ ap (λ (l : List Granted). draft_told client now d ++ l) (granted_each R ds (λ x there. found x (inr there)))

  module _ (until : Moment) (rows : Rows) (ds es : List Draft) (distinct : IsDistinct key_eq (keys_of rows)) (are : AreDrafts until rows ds)
      (none : HasNone client rows ds) where
    pub drafts_lost : AreLost client now ds es → AreDrafts until rows es
    drafts_lost is_lost = drafts_same until rows ds es (lost_pairs ds es is_lost) (lost_least ds es is_lost) are

    each : (row : Key × SemaphoreRow) → Stands rows row → lookup (key_eq row.0) (drafted ds) ≡ None → has_entry client row.1 ≡ false
    each = from_all (λ row. lookup (key_eq row.0) (drafted ds) ≡ None → has_entry client row.1 ≡ false) rows none

    pub rows_lost : AreLost client now ds es → has_any_of (Association client) rows ≡ false → become (drafted es) rows ≡ lost client now (become (drafted ds) rows)
    rows_lost is_lost scope = ap (λ (c : Rows). become c rows) (lost_rows ds es is_lost) ∙ sym (lost_in client now (drafted ds) rows each scope)

    own : IsDistinct key_eq (keys_of (drafted ds))
    own = own_names ds are.ascend

    found : (d : Draft) → Stands ds d → lookup (key_eq d.key.now) (become (drafted ds) rows) ≡ Some d.row
    found d there =
        become_found d.key.now d.row (drafted ds) rows (row_of_name (drafted ds) d.key.now d.row own (of_map named ds d there)) (draft_found rows ds are.places d there)

    key_stands : (key : Key) → Stands (keys_of (drafted ds)) key → Stands (keys_of rows) key
    key_stands key there =
        let r = in_map (λ (row : Key × SemaphoreRow). row.0) (drafted ds) key there in
        let d = in_map named ds r.0 r.1 in
        let same : d.0.key.now ≡ key = ap (λ (x : Key × SemaphoreRow). x.0) d.2 ∙ r.2 in
        subst (Stands (keys_of rows)) same (place_of d.0 (from_all (HasPlace rows) ds are.places d.0 d.1))
      where
        stands_at : (ks : List Key) (p : ℕ) (k : Key) → slice_get ks p ≡ Some k → Stands ks k
        stands_at [] zero k e = absurd (cc e)
        stands_at [] (suc p) k e = absurd (cc e)
        stands_at (x ∷ ks) zero k e = let one : x ≡ k = cc e in inl one
        stands_at (x ∷ ks) (suc p) k e = inr (stands_at ks p k e)

        place_of : (d : Draft) → slice_get (keys_of rows) d.place ≡ Some d.key.now → Stands (keys_of rows) d.key.now
        place_of d at = stands_at (keys_of rows) d.place d.key.now at

    pub grants_lost : lost_granted client now (become (drafted ds) rows) ≡ drafts_told client now ds
    grants_lost =
        ap (all_granted (become (drafted ds) rows)) (granted_in client now (drafted ds) rows each distinct own are.ascend key_stands)
        ∙ granted_each (become (drafted ds) rows) ds found

    pub told_lost : (before told : List Happening) → told ≡ (before ++ Aborts client ∷ []) ++ map Grants (drafts_told client now ds)
        → told ≡ before ++ abort_told true client now (become (drafted ds) rows)
    told_lost before told is =
        is ∙ append_assoc before (Aborts client ∷ []) (map Grants (drafts_told client now ds))
        ∙ ap (λ (l : List Granted). before ++ (Aborts client ∷ map Grants l)) (sym grants_lost)
