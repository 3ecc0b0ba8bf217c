-- The members of a group that are told are the rows that are.
use Rattle.std.proofs.Common.{◌≡◌, ◌∙◌, ap, sym, refl, ◌&&◌, Bool, true, false, cond, List, [], ◌∷◌, filter, map}
use Rattle.mms_types.specs.declared.condition.Notice.{Notice}
use Rattle.mms_types.specs.declared.condition.Turned.{Turned}
use Rattle.event_enrol.specs.Enrolments.{Rows, has_bit, is_on, is_told, notice, notices}
use Rattle.event_enrol.specs.Groups.{is_member_told, member, member_notice}
use Rattle.event_enrol.specs.declared.group.Member.{Member}

pub told_alike : (turned : Turned) (rows : Rows) → map (member_notice turned) (filter (is_member_told turned) (map member (filter (is_on turned.condition) rows))) ≡ notices turned rows
told_alike turned [] = refl
told_alike turned (row ∷ rows) = by_both (is_on turned.condition row) (has_bit turned.transition row.1.transitions) refl refl (told_alike turned rows)
  where
    by_both : (b t : Bool) → is_on turned.condition row ≡ b → has_bit turned.transition row.1.transitions ≡ t
        → map (member_notice turned) (filter (is_member_told turned) (map member (filter (is_on turned.condition) rows))) ≡ notices turned rows
        → map (member_notice turned) (filter (is_member_told turned) (map member (cond b (row ∷ filter (is_on turned.condition) rows) (filter (is_on turned.condition) rows))))
        ≡ map (notice turned) (cond (b && t) (row ∷ filter (is_told turned) rows) (filter (is_told turned) rows))
    by_both true true h i later =
        ap (λ (c : Bool). map (member_notice turned) (cond c (member row ∷ filter (is_member_told turned) (map member (filter (is_on turned.condition) rows))) (filter (is_member_told turned) (map member (filter (is_on turned.condition) rows))))) i
        ∙ ap (λ (l : List Notice). notice turned row ∷ l) later
    by_both true false h i later =
        ap (λ (c : Bool). map (member_notice turned) (cond c (member row ∷ filter (is_member_told turned) (map member (filter (is_on turned.condition) rows))) (filter (is_member_told turned) (map member (filter (is_on turned.condition) rows))))) i
        ∙ later
    by_both false t h i later = later

map_twice : {A B C : Type 0} (g : B → C) (f : A → B) (xs : List A) → map g (map f xs) ≡ map (λ x. g (f x)) xs
map_twice g f [] = refl
map_twice {A} {B} {C} g f (x ∷ xs) = ap (λ (l : List C). g (f x) ∷ l) (map_twice g f xs)

-- so are their clients
pub clients_alike : (turned : Turned) (rows : Rows)
    → map (λ (m : Member). m.client) (filter (is_member_told turned) (map member (filter (is_on turned.condition) rows))) ≡ map (λ (n : Notice). n.client) (notices turned rows)
clients_alike turned rows =
    sym (map_twice (λ (n : Notice). n.client) (member_notice turned) (filter (is_member_told turned) (map member (filter (is_on turned.condition) rows))))
    ∙ ap (map (λ (n : Notice). n.client)) (told_alike turned rows)
