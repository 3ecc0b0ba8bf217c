use Rattle.std.proofs.Common.{◌≡◌, ◌∙◌, ◌∷◌, ◌++◌, ap, drop, map, subst, sym, take}
use Rattle.std.proofs.lemmas.List.{take-map}
use Rattle.object_names.specs.Listing.{insert_name}
use Rattle.domain_load.proofs.FirstNames.{map_put}
use Rattle.domain_load.proofs.sorted.put_name.Goals as goal

pub returns-clause-placed : goal.returns-clause-placed
returns-clause-placed c =
    let old = c.args.names.now.items in
    let place = c.place_of-place.result in
    let name = c.args.name.now in
    let there = subst (λ xs. insert_name name (map (λ other. other.now) xs) ≡ take place (map (λ other. other.now) xs) ++ name ∷ drop place (map (λ other. other.now) xs))
    c.deref.ensures.value c.place_of-place.ensures.place in
    ap (map (λ other. other.now)) c.truncate.ensures.items
    ∙ sym (take-map (λ other. other.now) c.args.most c.insert.new.self.items)
    ∙ ap (λ xs. take c.args.most (map (λ other. other.now) xs)) c.in_ok-insert.ensures.items
    ∙ ap (take c.args.most) (map_put (λ other. other.now) old place c.args.name ∙ sym there)
