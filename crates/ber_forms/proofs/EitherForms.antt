-- What edition 1 reads, edition 2 reads the same; and what is spelled anew with definite lengths says the same.
use Rattle.std.proofs.Common.{◌≡◌, ℕ, zero, suc, ◌^◌, ◌<◌, Bool, true, false, List, [], ◌∷◌, ◌++◌, length, map, Option, Some, None, refl, sym, ap, subst, ◌∙◌, arith}
use Rattle.std.specs.Prelude.{IsTrue}
use Rattle.std.proofs.lemmas.List.{length-append}
use Rattle.ber_core.specs.declared.element.Lengths.TheVariants.{Definite, Either}
use Rattle.ber_core.specs.Part.{Part}
use Rattle.ber_core.specs.Element.{IsCut}
use Rattle.ber_core.specs.Respelling.{parts_in, each_of, contents_by, respelled, anew}
use Rattle.ber_core.proofs.Definites.{IsBytes}
use Rattle.ber_core.proofs.Elements.{one_cut}
use Rattle.ber_core.proofs.Spelled.{contents_shorter}
use Rattle.ber_core.proofs.Closed.{bytes_after}
use Rattle.ber_core.proofs.Respelled.{bytes_before, is_part, cut_either, parts_cut, spelled_anew, anew_cut, respelled_cut, respelled_itself, respelled_other}
use Rattle.ber_forms.specs.Value.{Value}
use Rattle.ber_forms.specs.Form.{Form}
use Rattle.ber_forms.specs.Reading.{is_constructed}
use Rattle.ber_forms.specs.InForm.{InForm}
use Rattle.ber_forms.specs.Kept.{is_looked_into}
use Rattle.ber_forms.proofs.Carried.{AreSameParts, Carries, form_carried, plain}

-- ---- edition 1 within edition 2

abbrev Equal : List ℕ → List ℕ → Type 0
Equal c d = c ≡ d

equal_parts : (ps : List Part) → AreSameParts Definite Either Equal ps ps
equal_parts [] = tt
equal_parts (p ∷ ps) = (record { tag = refl; plain_contents = λ e. refl; contents = λ e. refl }, equal_parts ps)

equal_carries : Carries Definite Either Equal
equal_carries c d same ps cut = (ps, equal_parts ps, subst (λ (s : List ℕ). IsCut Either s ps) same (cut_either c ps cut))

by_bit : (P : Type 0) (b : Bool) → (b ≡ true → P) → (b ≡ false → P) → P
by_bit P true here there = here refl
by_bit P false here there = there refl

pub read_by_either : (f : Form) (c : List ℕ) (v : Value) → InForm Definite f c v → InForm Either f c v
read_by_either f c v h =
    by_bit (InForm Either f c v) (is_constructed f) (λ e. form_carried Definite Either Equal equal_carries false (λ no d f s. s) f (λ yes. absurd cc) e c c v refl h) (λ e. plain Definite Either f e c v h)

-- ---- spelled anew

-- the second octets are the first, spelled anew down to some depth
record Respells (c d : List ℕ) : Type 0 where
  depth : ℕ
  is : d ≡ respelled depth c
  bytes : IsBytes c
  short : length d < 2 ^ 64

respells_itself : (c : List ℕ) → IsBytes c → length c < 2 ^ 64 → Respells c c
respells_itself c fits short = record { depth = 0; is = sym (respelled_itself c); bytes = fits; short = short }

abbrev IsAnew : List ℕ → List ℕ → Type 0
IsAnew d c = Respells c d

itself_parts : (octets : List ℕ) (ps : List Part) → IsCut Either octets ps → IsBytes octets → length octets < 2 ^ 64 → AreSameParts Either Either Respells ps ps
itself_parts octets [] cut fits short = tt
itself_parts octets (p ∷ ps) (first, rest, is, split, more) fits short =
    let part = is_part first p is in
    let whole : IsBytes (first ++ rest) = subst IsBytes split fits in
    let len = length-append first rest in
    let inner = part.bytes (bytes_before first rest whole) in (
      record { tag = refl; plain_contents = λ e. refl; contents = λ e. respells_itself p.contents inner (omega (arith, part.shorter, short, ap length split, len)) },
      itself_parts rest ps more (bytes_after first rest whole) (omega (arith, short, ap length split, len)),
    )

itself_back : (octets : List ℕ) (ps : List Part) → IsCut Either octets ps → IsBytes octets → length octets < 2 ^ 64 → AreSameParts Either Either IsAnew ps ps
itself_back octets [] cut fits short = tt
itself_back octets (p ∷ ps) (first, rest, is, split, more) fits short =
    let part = is_part first p is in
    let whole : IsBytes (first ++ rest) = subst IsBytes split fits in
    let len = length-append first rest in
    let inner = part.bytes (bytes_before first rest whole) in (
      record { tag = refl; plain_contents = λ e. refl; contents = λ e. respells_itself p.contents inner (omega (arith, part.shorter, short, ap length split, len)) },
      itself_back rest ps more (bytes_after first rest whole) (omega (arith, short, ap length split, len)),
    )

-- the contents of an element with and without the constructed bit
plain_anew : (depth : ℕ) (p : Part) → p.tag.constructed ≡ false → p.contents ≡ (anew depth p).contents
plain_anew depth p e = sym (ap (λ (b : Bool). contents_by b (respelled depth) p.contents) e)

deep_anew : (depth : ℕ) (p : Part) → p.tag.constructed ≡ true → (anew depth p).contents ≡ respelled depth p.contents
deep_anew depth p e = ap (λ (b : Bool). contents_by b (respelled depth) p.contents) e

anew_respells : (depth : ℕ) (p : Part) → IsBytes p.contents → length (anew depth p).contents < 2 ^ 64 → p.tag.constructed ≡ true → Respells p.contents (anew depth p).contents
anew_respells depth p fits short e = record { depth = depth; is = deep_anew depth p e; bytes = fits; short = short }

anew_parts : (depth : ℕ) (octets : List ℕ) (ps : List Part) → IsCut Either octets ps → IsBytes octets → length (each_of (spelled_anew depth) ps) < 2 ^ 64
    → AreSameParts Either Either Respells ps (map (anew depth) ps) × AreSameParts Either Either IsAnew (map (anew depth) ps) ps
anew_parts depth octets [] cut fits short = (tt, tt)
anew_parts depth octets (p ∷ ps) (first, rest, is, split, more) fits short =
    let part = is_part first p is in
    let whole : IsBytes (first ++ rest) = subst IsBytes split fits in
    let inner = part.bytes (bytes_before first rest whole) in
    let sum = length-append (spelled_anew depth p) (each_of (spelled_anew depth) ps) in
    let within : length (anew depth p).contents < 2 ^ 64 = omega (arith, short, sum, contents_shorter p.tag (anew depth p).contents) in
    let others = anew_parts depth rest ps more (bytes_after first rest whole) (omega (arith, short, sum)) in (
      (record { tag = refl; plain_contents = plain_anew depth p; contents = anew_respells depth p inner within }, others.0),
      (record { tag = refl; plain_contents = λ e. sym (plain_anew depth p e); contents = anew_respells depth p inner within }, others.1),
    )

there_carries : Carries Either Either Respells
there_carries c d same ps cut = by_depth same.depth same.is
  where
    by_depth : (k : ℕ) → d ≡ respelled k c → (qs : List Part) × AreSameParts Either Either Respells ps qs × IsCut Either d qs
    by_depth zero is =
        let e : d ≡ c = is ∙ respelled_itself c in
        (ps, itself_parts c ps cut same.bytes (subst (λ (s : List ℕ). length s < 2 ^ 64) e same.short), subst (λ (s : List ℕ). IsCut Either s ps) (sym e) cut)
    by_depth (suc k) is =
        let e : d ≡ each_of (spelled_anew k) ps = is ∙ respelled_cut k c ps cut in
        let short : length (each_of (spelled_anew k) ps) < 2 ^ 64 = subst (λ (s : List ℕ). length s < 2 ^ 64) e same.short in
        (map (anew k) ps, (anew_parts k c ps cut same.bytes short).0, subst (λ (s : List ℕ). IsCut Either s (map (anew k) ps)) (sym e) (anew_cut Either k c ps cut short))

back_carries : Carries Either Either IsAnew
back_carries c d same ps cut = by_depth same.depth same.is
  where
    -- octets that stay as they are
    kept : c ≡ d → (qs : List Part) × AreSameParts Either Either IsAnew ps qs × IsCut Either d qs
    kept is =
        let here = subst (λ (s : List ℕ). IsCut Either s ps) is cut in
        (ps, itself_back d ps here same.bytes (subst (λ (s : List ℕ). length s < 2 ^ 64) is same.short), here)

    by_parts : (k : ℕ) → c ≡ respelled (suc k) d → (o : Option (List Part)) → parts_in (length d) d ≡ o → (qs : List Part) × AreSameParts Either Either IsAnew ps qs × IsCut Either d qs
    by_parts k is None e = kept (is ∙ respelled_other k d e)
    by_parts k is (Some qs) e =
        let first = parts_cut (length d) d qs same.bytes e in
        let spelled : c ≡ each_of (spelled_anew k) qs = is ∙ respelled_cut k d qs first in
        let short : length (each_of (spelled_anew k) qs) < 2 ^ 64 = subst (λ (s : List ℕ). length s < 2 ^ 64) spelled same.short in
        let cuts = anew_cut Either k d qs first short in
        let one : map (anew k) qs ≡ ps = one_cut Either c (map (anew k) qs) ps (subst (λ (s : List ℕ). IsCut Either s (map (anew k) qs)) (sym spelled) cuts) cut in
        (qs, subst (λ (rs : List Part). AreSameParts Either Either IsAnew rs qs) one (anew_parts k d qs first same.bytes short).1, first)

    by_depth : (k : ℕ) → c ≡ respelled k d → (qs : List Part) × AreSameParts Either Either IsAnew ps qs × IsCut Either d qs
    by_depth zero is = kept (is ∙ respelled_itself d)
    by_depth (suc k) is = by_parts k is (parts_in (length d) d) refl

module _ (depth : ℕ) (f : Form) (looked : IsTrue (is_looked_into f)) (bit : is_constructed f ≡ true) (c : List ℕ) (fits : IsBytes c) (short : length (respelled depth c) < 2 ^ 64) where
  respells : Respells c (respelled depth c)
  respells = record { depth = depth; is = refl; bytes = fits; short = short }

  pub there : (v : Value) → InForm Either f c v → InForm Either f (respelled depth c) v
  there v h = form_carried Either Either Respells there_carries true (λ no. absurd cc) f (λ yes. looked) bit c (respelled depth c) v respells h

  pub back : (v : Value) → InForm Either f (respelled depth c) v → InForm Either f c v
  back v h = form_carried Either Either IsAnew back_carries true (λ no. absurd cc) f (λ yes. looked) bit (respelled depth c) c v respells h
