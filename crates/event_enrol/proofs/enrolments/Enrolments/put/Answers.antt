use Rattle.std.proofs.Common.{◌≡◌, ◌∙◌, ◌∷◌, ◌++◌, [], ap, arith, length, rules, subst, sym}
use Rattle.std.proofs.lemmas.List.{length_push}
use Rattle.std.specs.List.{list_all}
use Rattle.mms_types.specs.declared.key.Key.{Key}
use Rattle.event_enrol.specs.Enrolments.{has_own_names}
use Rattle.event_enrol.specs.Groups.{IsIndexOf, joined, member}
use Rattle.event_enrol.specs.declared.enrolment.Enrolment.{Enrolment}
use Rattle.event_enrol.proofs.Indexed.{joins}
use Rattle.event_enrol.proofs.Kept.{all_more}
use Rattle.event_enrol.proofs.enrolments.Enrolments.put.Goals as goal

pub invariant_of-self-2 : goal.invariant_of-self-2
invariant_of-self-2 c =
    let rows = c.self.inside.rows.entries in
    let groups = c.self.inside.groups.entries in
    let row : Key × Enrolment = (c.args.key, c.args.row) in
    let is : c.put_row.new.rows.entries ≡ rows ++ row ∷ [] = search rules in
    let long = ap (λ es. length es) is ∙ length_push rows row in
    let seen = ap (λ es. length es) c.self.view_is in
    let joined_is : c.join.new.groups.entries ≡ joined c.args.row.condition (member row) groups =
    c.in_ok-join.ensures.joined
    ∙ ap (λ (k : Key). joined c.args.row.condition (record { enrolment = k; client = c.args.row.client; transitions = c.args.row.transitions }) groups) c.in_ok-copy.ensures in (
      omega (arith, long, seen, c.requires.room),
      ap (list_all has_own_names) is ∙ all_more has_own_names rows row c.self.invariant.1 c.requires.own,
      subst (λ gs. IsIndexOf c.put_row.new.rows.entries gs) (sym joined_is)
          (subst (λ es. IsIndexOf es (joined c.args.row.condition (member row) groups)) (sym is) (joins rows row groups c.self.invariant.2)),
    )
