-- What a sink took of a text, as the text goes on.
use Rattle.std.proofs.Common.{◌≡◌, ℕ, ◌+◌, ◌-◌, List, [], ◌++◌, Some, None, length, take, drop, refl, sym, ap, ◌∙◌, subst, append_assoc, append-nil, take-append-drop, arith, length-drop, Result, Ok, Err, OnErr}
use Rattle.std.proofs.lemmas.List.{take_all}
use Rattle.std.proofs.Math.Seq.{take-add}
use Rattle.std.proofs.KnownBytes.{Appends-nil, Appends-trans, Appends-kept}
use Rattle.std.specs.Io.KnownBytes.{Appends, Keeps, append_known}
use Rattle.std.specs.declared.option.Option.{Option}
use Rattle.cell_io.specs.Prefix.{AppendsPrefix, AppendsBefore}

-- what holds, holds on any error
pub on_err : {X Y P : Type 0} (r : Result X Y) → P → OnErr r P
on_err (Ok x) p = tt
on_err (Err y) p = p

-- ---- a text that goes straight to the sink

-- a write took n octets more
pub took_more : (a b c : Option (List ℕ)) (xs : List ℕ) (d n : ℕ) → Appends a b (take d xs) → Appends b c (take n (take (length xs - d) (drop d xs))) → Appends a c (take (d + n) xs)
took_more a b c xs d n p q =
    let tail : take (length xs - d) (drop d xs) ≡ drop d xs = take_all _ _ (omega (arith, length-drop d xs)) in
    subst (Appends a c) (sym (take-add d n xs)) (Appends-trans a b c (take d xs) (take n (drop d xs)) p (subst (λ (l : List ℕ). Appends b c (take n l)) tail q))

-- the front of the octets was written, and then nothing
pub front : (a b c : Option (List ℕ)) (xs : List ℕ) (d : ℕ) → Appends a b (take d xs) → Keeps b c → AppendsPrefix a c xs
front a b c xs d p q = record {
  written = take d xs;
  rest = drop d xs;
  appended = Appends-kept a b c (take d xs) p q;
  parts = sym (take-append-drop d xs);
}

-- nothing of the text was written
pub prefix_none : (a : Option (List ℕ)) (text : List ℕ) → AppendsPrefix a a text
prefix_none a text = record { written = []; rest = text; appended = Appends-nil a; parts = refl }

-- all of the text was written
pub prefix_all : (a b : Option (List ℕ)) (text : List ℕ) → Appends a b text → AppendsPrefix a b text
prefix_all a b text p = record { written = text; rest = []; appended = p; parts = sym (append-nil text) }

-- a prefix of the text's front is one of the text
pub prefix_longer : (a b : Option (List ℕ)) (start rest text : List ℕ) → AppendsPrefix a b start → text ≡ start ++ rest → AppendsPrefix a b text
prefix_longer a b start rest text p e = record {
  written = p.written;
  rest = p.rest ++ rest;
  appended = p.appended;
  parts = e ∙ ap (λ (l : List ℕ). l ++ rest) p.parts ∙ append_assoc p.written p.rest rest;
}

-- the front was written, and then a prefix of the rest
pub prefix_after : (a b c : Option (List ℕ)) (start rest text : List ℕ) → Appends a b start → AppendsPrefix b c rest → text ≡ start ++ rest → AppendsPrefix a c text
prefix_after a b c start rest text p q e = record {
  written = start ++ q.written;
  rest = q.rest;
  appended = Appends-trans a b c start q.written p q.appended;
  parts = e ∙ ap (λ (l : List ℕ). start ++ l) q.parts ∙ sym (append_assoc start q.written q.rest);
}

-- the same, where the rest's writing answered r
pub prefix_after_on : {T E : Type 0} (a b c : Option (List ℕ)) (start rest text : List ℕ) (r : Result T E) → Appends a b start → OnErr r (AppendsPrefix b c rest) → text ≡ start ++ rest
    → OnErr r (AppendsPrefix a c text)
prefix_after_on a b c start rest text (Ok x) p q e = q
prefix_after_on a b c start rest text (Err x) p q e = prefix_after a b c start rest text p q e

-- ---- a text whose end still waits

-- nothing was written, and all waits
pub before_none : (a : Option (List ℕ)) (text : List ℕ) → AppendsBefore a a text text
before_none a text = record { written = []; appended = Appends-nil a; parts = refl }

-- all was written, and nothing waits
pub before_all : (a b : Option (List ℕ)) (text : List ℕ) → Appends a b text → AppendsBefore a b [] text
before_all a b text p = record { written = text; appended = p; parts = sym (append-nil text) }

-- more of the text waits
pub before_waits : (a b : Option (List ℕ)) (waiting start more longer text : List ℕ) → AppendsBefore a b waiting start → longer ≡ waiting ++ more → text ≡ start ++ more → AppendsBefore a b longer text
before_waits a b waiting start more longer text p e f = record {
  written = p.written;
  appended = p.appended;
  parts = f ∙ ap (λ (l : List ℕ). l ++ more) p.parts ∙ append_assoc p.written waiting more ∙ ap (λ (l : List ℕ). p.written ++ l) (sym e);
}

-- the text `start` was put and then the text `more`
pub before_more : (a b c : Option (List ℕ)) (waiting later start more text : List ℕ) → AppendsBefore a b waiting start → AppendsBefore b c later (waiting ++ more) → text ≡ start ++ more
    → AppendsBefore a c later text
before_more a b c waiting later start more text p q e = record {
  written = p.written ++ q.written;
  appended = Appends-trans a b c p.written q.written p.appended q.appended;
  parts = e ∙ ap (λ (l : List ℕ). l ++ more) p.parts ∙ append_assoc p.written waiting more ∙ ap (λ (l : List ℕ). p.written ++ l) q.parts ∙ sym (append_assoc p.written q.written later);
}

-- what waited was written
pub before_flushed : (a b c : Option (List ℕ)) (waiting text : List ℕ) → AppendsBefore a b waiting text → Appends b c waiting → Appends a c text
before_flushed a b c waiting text p q = subst (Appends a c) (sym p.parts) (Appends-trans a b c p.written waiting p.appended q)

-- what the sink holds and what waits, joined, grew by the text
pub before_joined : (a b : Option (List ℕ)) (waited waiting text : List ℕ) → AppendsBefore a b waiting (waited ++ text) → Appends (append_known a waited) (append_known b waiting) text
before_joined None b waited waiting text p = tt
before_joined (Some x) None waited waiting text p = absurd p.appended
before_joined (Some x) (Some y) waited waiting text p =
    ap (λ (l : List ℕ). l ++ waiting) p.appended ∙ append_assoc x p.written waiting ∙ ap (λ (l : List ℕ). x ++ l) (sym p.parts) ∙ sym (append_assoc x waited text)

-- ---- a fault in the middle of a text of which the front `start` was put

-- what waited was being flushed
pub prefix_flushed : (a b c : Option (List ℕ)) (waiting start rest text : List ℕ) → AppendsBefore a b waiting start → AppendsPrefix b c waiting → text ≡ start ++ rest → AppendsPrefix a c text
prefix_flushed a b c waiting start rest text p q e = record {
  written = p.written ++ q.written;
  rest = q.rest ++ rest;
  appended = Appends-trans a b c p.written q.written p.appended q.appended;
  parts = e ∙ ap (λ (l : List ℕ). l ++ rest) (p.parts ∙ ap (λ (l : List ℕ). p.written ++ l) q.parts ∙ sym (append_assoc p.written q.written q.rest)) ∙ append_assoc (p.written ++ q.written) q.rest rest;
}

-- all was put, and what waited was being flushed
pub prefix_last : (a b c : Option (List ℕ)) (waiting text : List ℕ) → AppendsBefore a b waiting text → AppendsPrefix b c waiting → AppendsPrefix a c text
prefix_last a b c waiting text p q = prefix_flushed a b c waiting text [] text p q (sym (append-nil text))

-- `more` was being put
pub prefix_put : (a b c : Option (List ℕ)) (waiting start more rest text : List ℕ) → AppendsBefore a b waiting start → AppendsPrefix b c (waiting ++ more) → text ≡ (start ++ more) ++ rest
    → AppendsPrefix a c text
prefix_put a b c waiting start more rest text p q e =
    prefix_flushed a b c (waiting ++ more) (start ++ more) rest text (before_waits a b waiting start more (waiting ++ more) (start ++ more) p refl refl) q e

-- the work stopped between two puts
pub prefix_between : (a b : Option (List ℕ)) (waiting start rest text : List ℕ) → AppendsBefore a b waiting start → text ≡ start ++ rest → AppendsPrefix a b text
prefix_between a b waiting start rest text p e =
    prefix_longer a b start rest text (record { written = p.written; rest = waiting; appended = p.appended; parts = p.parts }) e

-- ---- the same by the text's form, for a function that puts `start` and then `more` after what waited

pub then_more : (a b c : Option (List ℕ)) (waited waiting later start more : List ℕ) → AppendsBefore a b waiting (waited ++ start) → AppendsBefore b c later (waiting ++ more)
    → AppendsBefore a c later (waited ++ (start ++ more))
then_more a b c waited waiting later start more p q = before_more a b c waiting later (waited ++ start) more _ p q (sym (append_assoc waited start more))

pub then_fault : (a b c : Option (List ℕ)) (waited waiting start more : List ℕ) → AppendsBefore a b waiting (waited ++ start) → AppendsPrefix b c (waiting ++ more)
    → AppendsPrefix a c (waited ++ (start ++ more))
then_fault a b c waited waiting start more p q =
    prefix_flushed a b c (waiting ++ more) ((waited ++ start) ++ more) [] _ (before_waits a b waiting (waited ++ start) more (waiting ++ more) _ p refl refl) q (sym (append-nil _ ∙ append_assoc waited start more))

pub at_once_fault : (a b : Option (List ℕ)) (waited start more : List ℕ) → AppendsPrefix a b (waited ++ start) → AppendsPrefix a b (waited ++ (start ++ more))
at_once_fault a b waited start more p = prefix_longer a b (waited ++ start) more _ p (sym (append_assoc waited start more))
