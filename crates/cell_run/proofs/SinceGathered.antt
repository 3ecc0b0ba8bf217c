-- Passes that have gathered, and what they then do one after the other.
use Rattle.std.proofs.Common.{◌≡◌, ◌++◌, ◌+◌, ℕ, List, refl, ap, sym, ◌∙◌, subst, map, length, arith, Some, slice_get, get_or}
use Rattle.std.proofs.lemmas.Option.{slice_get_within, slice_get-get_or}
use Rattle.part_table.specs.History.{StartsWith, events_of, places_of}
use Rattle.part_table.specs.Known.{Known, Opened, HoldsNothing, IsTrueOf}
use Rattle.part_table.specs.Gathered.{HaveGathered}
use Rattle.part_table.proofs.Own.{own_events}
use Rattle.cell_run.specs.Laying.{placed_of}
use Rattle.cell_run.specs.Drained.{IsOne, AreKnown}
use Rattle.cell_run.proofs.OwnEvents.{made_since}

module _ {T E : Type 0} (may_make : ℕ → E → Type 0) (table : Opened T) where
  -- passes that are the table's and hold nothing know the common history once they have gathered
  pub gathered_known : (before after : List (Known T E)) (k : ℕ) (common : List (ℕ × E)) → length before ≡ table.callers
      → ((i : ℕ) (p : Known T E) → slice_get before i ≡ Some p → p.table ≡ table) → ((i : ℕ) (p : Known T E) → slice_get before i ≡ Some p → p.by ≡ i)
      → ((i : ℕ) (p : Known T E) → slice_get before i ≡ Some p → HoldsNothing p)
      → HaveGathered may_make before after k common → AreKnown table after common
  gathered_known before after k common count of_table by idle g = record { count = g.same ∙ count; each = one }
    where
      one : (i : ℕ) (q : Known T E) → slice_get after i ≡ Some q → IsOne table common i q
      one i q is =
          let within = slice_get_within after i q is in
          let same = g.same in
          let there = slice_get-get_or before i q (omega arith) in
          let p = get_or before i q in
          let kept = g.kept i p there in
          let e : kept.0 ≡ q = cc (sym kept.1 ∙ is) in
          let of : q ≡ record p { seen = q.seen } = subst (λ (x : Known T E). x ≡ record p { seen = x.seen }) e kept.2 in
          record {
            of_table = ap (λ (x : Known T E). x.table) of ∙ of_table i p there;
            by = ap (λ (x : Known T E). x.by) of ∙ by i p there;
            idle = subst HoldsNothing (sym of) (idle i p there);
            seen = subst (λ (x : Known T E). StartsWith x.seen common) e kept.3;
            own = ap (λ (x : Known T E). x.own) of ∙ kept.5;
          }

  -- what a caller has made since passes gathered, once they have gathered again
  pub served_since : (before common body : List (ℕ × E)) (i : ℕ) (p q : Known T E) (new : List (ℕ × E))
      → IsOne table before i p → IsTrueOf may_make p → IsTrueOf may_make q → q.by ≡ i
      → q.own ≡ p.own ++ map (λ (x : ℕ × E). x.0) new
      → events_of i q.seen ≡ events_of i p.seen ++ map (λ (x : ℕ × E). x.1) new
      → StartsWith common q.seen → q.own ≡ places_of i common → common ≡ before ++ body
      → new ≡ placed_of (1 + length before) i body
  served_since before common body i p q new one true_p true_q by own events starts mine is =
      let places_p : places_of i p.seen ≡ places_of i before = subst (λ n. places_of n p.seen ≡ p.own) one.by (sym true_p.own) ∙ one.own in
      let known_p = own_events i before p.seen one.seen places_p in
      let places_q : places_of i common ≡ places_of i q.seen = sym mine ∙ subst (λ n. q.own ≡ places_of n q.seen) by true_q.own in
      let known_q = own_events i q.seen common starts places_q in
      made_since (1 + length before) i before body new
      (ap (places_of i) (sym is) ∙ sym mine ∙ own ∙ ap (λ (l : List ℕ). l ++ map (λ (x : ℕ × E). x.0) new) one.own)
      (ap (events_of i) (sym is) ∙ known_q ∙ events ∙ ap (λ (l : List E). l ++ map (λ (x : ℕ × E). x.1) new) known_p)
      refl
