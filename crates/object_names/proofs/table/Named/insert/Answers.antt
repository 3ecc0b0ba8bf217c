use Rattle.std.proofs.Common.{◌≡◌, ◌++◌, ◌∷◌, [], ap, arith, length, length-append, map, subst, sym, None, Some}
use Rattle.std.specs.Map.{keys_of, lookup}
use Rattle.mms_types.specs.Order.{key_eq}
use Rattle.object_names.specs.Borrowed.{scope_meant}
use Rattle.object_names.specs.Index.{IsIndexOf, IsSplit, is_front, key_at}
use Rattle.object_names.proofs.Changed.{index_more}
use Rattle.object_names.proofs.table.Named.insert.Goals as goal

pub invariant_of-self-in-Ok : goal.invariant_of-self-in-Ok
invariant_of-self-in-Ok g c =
    let rows = c.self.inside.rows.entries in
    let keys = keys_of rows in
    let key = c.args.key in
    let front = c.first_place-front.result in
    let places = c.make_room.new.places.items in
    let index : IsIndexOf keys places = subst (IsIndexOf keys) (sym c.make_room.ensures.same) c.self.invariant.0 in
    let there : IsSplit (is_front (scope_meant c.of-scope.result) (Some key.item)) (map (key_at keys) places) front =
    subst (λ ps. IsSplit (is_front (scope_meant c.of-scope.result) (Some key.item)) (map (key_at keys) ps) front) c.deref.ensures.value c.first_place-front.ensures.split in
    let split : IsSplit (is_front key.scope (Some key.item)) (map (key_at keys) places) front =
    subst (λ s. IsSplit (is_front s (Some key.item)) (map (key_at keys) places) front) c.of-scope.ensures there in
    let none : lookup (key_eq key) rows ≡ None = rw c.self.view_is c.requires in
    let long = ap (λ es. length es) c.in-Ok.ensures.placed in
    let one = length-append rows ((key, c.args.value) ∷ []) in
    let room = c.make_room.ensures.rank c.if-not-make_room.false in (
      subst (λ es. IsIndexOf (keys_of es) c.put_place.new.places.items) (sym c.in-Ok.ensures.placed)
          (subst (IsIndexOf (keys_of (rows ++ (key, c.args.value) ∷ []))) (sym c.put_place.ensures)
          (index_more rows key c.args.value places front c.len-place.result index none split c.len-place.ensures.len)),
      omega (arith, long, one, room, c.len-place.ensures.len),
    )
