-- Entries that are written keep the number of entries and of octets within their limits, and the sum the sum.
use Rattle.std.proofs.Common.{◌≡◌, ◌∙◌, ap, ap₂, subst, sym, refl, ℕ, suc, ◌+◌, ◌<◌, ◌≤◌, nat_lt, Bool, true, false, not, cond, if◌then◌else◌, List, [], ◌∷◌, ◌++◌, append-nil, Option, filter, get_or, length, sum_by, take, arith, length-append}
use Rattle.std.proofs.lemmas.List.{take_more}
use Rattle.std.proofs.lemmas.List.Elements.{filter-append}
use Rattle.std.proofs.lemmas.Bool.Decides.{nat_tests}
use Rattle.std.proofs.lemmas.List.Filters.{sum_by-filter_both}
use Rattle.std.proofs.lemmas.List.Sums.{sum_by-append, sum_by-cons, sum_by_more_le, sum_by_push, length-filter, count_by-le-length}
use Rattle.mms_types.specs.declared.journal.JournalEntry.{JournalEntry}
use Rattle.mms_types.specs.declared.journal.JournalLimit.{JournalLimit}
use Rattle.mms_journal.specs.Entries.{entry_length}
use Rattle.mms_journal.specs.Journals.{IsJournal, Log, most_entries, most_octets, octets_in, length_of}
use Rattle.mms_journal.specs.Services.{has_no_number, has_no_room, initialized, goes, numbered, written_by}
use Rattle.mms_journal.specs.declared.journal.Written.{Written}
use Rattle.mms_journal.proofs.Rising.{fewer_rise, more_rise}

pub numbered_count : (client n : ℕ) (es : List JournalEntry) → length (numbered client n es) ≡ length es
numbered_count client n [] = refl
numbered_count client n (e ∷ es) = ap suc (numbered_count client (n + 1) es)

pub numbered_octets : (client n : ℕ) (es : List JournalEntry) → octets_in (numbered client n es) ≡ sum_by entry_length es
numbered_octets client n [] = refl
numbered_octets client n (e ∷ es) =
    sum_by-cons length_of (record { number = n + 1; client = client; entry = e }) (numbered client (n + 1) es)
    ∙ ap (λ m. entry_length e + m) (numbered_octets client (n + 1) es) ∙ sym (sum_by-cons entry_length e es)

pub written_octets : (client : ℕ) (es : List JournalEntry) (j : Log) → octets_in (written_by client es j).entries ≡ octets_in j.entries + sum_by entry_length es
written_octets client es j = sum_by-append length_of j.entries (numbered client j.written es) ∙ ap (λ m. octets_in j.entries + m) (numbered_octets client j.written es)

at_most : (a b : ℕ) → nat_lt a b ≡ false → b ≤ a
at_most a b e = grind (arith, nat_tests, e)

pub still_sound : (client : ℕ) (es : List JournalEntry) (j : Log) → IsJournal j → has_no_number es j ≡ false → has_no_room es j ≡ false → IsJournal (written_by client es j)
still_sound client es j h number room =
    let few : length j.entries + length es ≤ most_entries = at_most _ _ number in
    let short : octets_in j.entries + sum_by entry_length es ≤ most_octets = at_most _ _ room in
    record {
      rises = more_rise client 0 j.written j.entries es h.rises;
      few = omega (arith, few, length-append j.entries (numbered client j.written es), numbered_count client j.written es);
      short = omega (arith, short, written_octets client es j);
    }

pub fewer_octets : (p : Written → Bool) (ws : List Written) → octets_in (filter p ws) ≤ octets_in ws
fewer_octets p ws = let both = sum_by-filter_both p (λ w. not (p w)) (λ w. refl) length_of ws in omega (arith, both)

pub fewer_sound : (limit : Option JournalLimit) (j : Log) → IsJournal j → IsJournal (initialized limit j)
fewer_sound limit j h =
    let stays : Written → Bool = λ w. not (goes limit w) in
    record {
      rises = fewer_rise stays 0 j.entries j.written h.rises;
      few = omega (arith, h.few, length-filter stays j.entries, count_by-le-length stays j.entries);
      short = omega (arith, h.short, fewer_octets stays j.entries);
    }

pub numbered_more : (client n : ℕ) (es : List JournalEntry) (e : JournalEntry) (last : ℕ) → last ≡ n + length es
    → numbered client n (es ++ e ∷ []) ≡ numbered client n es ++ record { number = last + 1; client = client; entry = e } ∷ []
numbered_more client n [] e last is = ap (λ (m : ℕ). record { number = m + 1; client = client; entry = e } ∷ []) (omega (arith, is))
numbered_more client n (x ∷ es) e last is =
    ap (λ l. record { number = n + 1; client = client; entry = x } ∷ l) (numbered_more client (n + 1) es e last (omega (arith, is)))

-- what is written, where the journal and the entries are seen so
pub written_sound : (client : ℕ) (es seen : List JournalEntry) (j shown : Log) (new : List Written) (written : ℕ) → es ≡ seen → j ≡ shown → IsJournal j
    → has_no_number seen shown ≡ false → has_no_room seen shown ≡ false → new ≡ j.entries ++ numbered client j.written es → written ≡ j.written + length es
    → IsJournal (record { entries = new; written = written })
written_sound client es seen j shown new written same-es same-j h number room is count =
    subst (λ (l : Log). IsJournal l) (λ i. record { entries = sym is i; written = sym count i })
    (still_sound client es j h (ap₂ has_no_number same-es same-j ∙ number) (ap₂ has_no_room same-es same-j ∙ room))

pub fits_left : (p : Written → Bool) (ws : List Written) (i : ℕ) (w : Written) → i < length ws → w ≡ get_or ws i w → octets_in (filter p (take i ws)) + length_of w ≤ octets_in ws
fits_left p ws i w low is =
    let front = fewer_octets p (take i ws) in
    let more = sum_by_more_le length_of ws i w low in
    omega (arith, front, more, ap length_of is)

-- of entries up to a place, and of one more
pub left_more : (p : Written → Bool) (ws : List Written) (i : ℕ) (w : Written) → i < length ws → w ≡ get_or ws i w
    → octets_in (filter p (take (i + 1) ws)) ≡ octets_in (filter p (take i ws)) + (if p w then length_of w else 0)
left_more p ws i w low is =
    ap (λ l. octets_in (filter p l)) (take_more ws i w low ∙ ap (λ (x : Written). take i ws ++ x ∷ []) (sym is))
    ∙ ap octets_in (filter-append p (take i ws) (w ∷ []))
    ∙ by_test (p w)
  where
    by_test : (b : Bool) → octets_in (filter p (take i ws) ++ cond b (w ∷ []) []) ≡ octets_in (filter p (take i ws)) + (if b then length_of w else 0)
    by_test true = sum_by_push length_of (filter p (take i ws)) w
    by_test false = ap octets_in (append-nil (filter p (take i ws))) ∙ omega arith
