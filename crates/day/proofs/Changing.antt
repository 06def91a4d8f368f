-- What one accepted request changes in the account: one line at most, which stays the line of the same order.
use Rattle.std.proofs.Common.{◌≡◌, ℕ, ◌+◌, ◌-◌, ◌<◌, ◌≤◌, Bool, false, not, ◌&&◌, eqb, ltb, leb, ◌⊎◌, [], ◌∷◌, ◌++◌, length, get_or, set, Some, None, Option, sym, refl, ap, ◌∙◌, inl, inr, arith}
use Rattle.std.proofs.lemmas.List.{length-set, length_push, get_or_append_left, get_or_push, get_or-set_same, get_or-set_other}
use Rattle.std.proofs.lemmas.Bool.{cases_eq, cases_lt, not-false, or_parts, and_parts, leb-true, leb-false, ltb-false}
use Rattle.orders.specs.declared.Entry.{Entry}
use Rattle.orders.specs.declared.refusal.Refusal.{Refusal}
use Rattle.book.specs.Phases.{phase_of}
use Rattle.book.specs.Tests.{first_refusal, changed}
use Rattle.book.specs.declared.requests.Request.{Request}
use Rattle.book.specs.declared.requests.Request.TheVariants as request
use Rattle.reference.specs.Quote.{makes_quote}
use Rattle.day.proofs.Deciding.{none_holds}
use Rattle.day.proofs.Uncrossing.{Clear, not_both, clear_of_all, undisplayed, clear_of_each, clear_with_less}
use Rattle.day.specs.Account.{Line, Account, left, order_of, has, no_line, line}
use Rattle.day.specs.Noting.{tests, new_line, re_entered, with_cancelled, with_taken, accepted, noted}

abbrev pub at : Account → ℕ → Line
at a i = get_or a.lines i no_line

abbrev pub size : Account → ℕ
size a = length a.lines

-- one line of an order and a later one
pub record SameOrder (l later : Line) : Type 0 where
  pub number : later.number ≡ l.number
  pub kind : later.kind ≡ l.kind
  pub side : later.side ≡ l.side
  pub flag : later.flag ≡ l.flag
  pub broker : later.broker ≡ l.broker
  pub volume : later.volume ≡ l.volume

pub same_order : (l : Line) → SameOrder l l
same_order l = record { number = refl; kind = refl; side = refl; flag = refl; broker = refl; volume = refl }

-- the lines have their places' numbers, their entry numbers are among those used and differ, no more is taken and
-- cancelled than there was, and no displayed buy meets a displayed sell
pub record Sound (a : Account) : Type 0 where
  pub few : size a ≤ 128
  pub numbered : (i : ℕ) → i < size a → (at a i).number ≡ i + 1
  pub used : (i : ℕ) → i < size a → (1 ≤ (at a i).entry) × ((at a i).entry ≤ a.entries)
  pub apart : (i j : ℕ) → i < size a → j < size a → (at a i).entry ≡ (at a j).entry → i ≡ j
  pub spent : (i : ℕ) → i < size a → (at a i).taken + (at a i).cancelled ≤ (at a i).volume
  pub uncrossed : (i j : ℕ) → i < size a → j < size a → Clear (at a i) (at a j)

-- of the places of `after`, one holds the line l, and every other what it held in a
abbrev OnePlace : Account → Account → ℕ → Line → Type 0
OnePlace a after i l = (j : ℕ) → j < size after → ((j ≡ i) × (at after j ≡ l)) ⊎ ((j ≡ i → ⊥) × (j < size a) × (at after j ≡ at a j))

-- l is clear of every line but the one in place i
abbrev ClearOfOthers : Account → ℕ → Line → Type 0
ClearOfOthers a i l = (j : ℕ) → j < size a → (j ≡ i → ⊥) → Clear l (at a j) × Clear (at a j) l

record Change (a after : Account) : Type 0 where
  pub place : ℕ
  pub new : Line
  pub one_place : OnePlace a after place new
  pub longer : size a ≤ size after
  pub few : size after ≤ 128
  pub grown : a.entries ≤ after.entries
  pub number : new.number ≡ place + 1
  pub named : (1 ≤ new.entry) × (new.entry ≤ after.entries)
  pub fresh : (j : ℕ) → j < size a → (j ≡ place → ⊥) → (at a j).entry ≡ new.entry → ⊥
  pub spent : new.taken + new.cancelled ≤ new.volume
  pub clear : ClearOfOthers a place new
  pub kept : place < size a → SameOrder (at a place) new

-- a changed account stays sound
sound_after : (a after : Account) → Sound a → Change a after → Sound after
sound_after a after s c = record {
  few = c.few;
  numbered = λ i h. elim (c.one_place i h) [
    | inl p ↦ ap (λ l. l.number) p.1 ∙ c.number ∙ ap (λ n. n + 1) (sym p.0)
    | inr p ↦ ap (λ l. l.number) p.2 ∙ s.numbered i p.1
  ];
  used = λ i h. elim (c.one_place i h) [
    | inl p ↦ let e : (at after i).entry ≡ c.new.entry = ap (λ l. l.entry) p.1 in (omega (arith, c.named.0, e), omega (arith, c.named.1, e))
    | inr p ↦ let e : (at after i).entry ≡ (at a i).entry = ap (λ l. l.entry) p.2 in let u = s.used i p.1 in (omega (arith, u.0, e), omega (arith, u.1, e, c.grown))
  ];
  apart = λ i j hi hj same. apart_places i j (c.one_place i hi) (c.one_place j hj) same;
  spent = λ i h. elim (c.one_place i h) [
    | inl p ↦ rw p.1 c.spent
    | inr p ↦ rw p.2 (s.spent i p.1)
  ];
  uncrossed = λ i j hi hj. uncrossed_places i j (c.one_place i hi) (c.one_place j hj);
}
  where
    Where : ℕ → Type 0
    Where j = ((j ≡ c.place) × (at after j ≡ c.new)) ⊎ ((j ≡ c.place → ⊥) × (j < size a) × (at after j ≡ at a j))

    entry : {x y : Line} → x ≡ y → x.entry ≡ y.entry
    entry e = ap (λ l. l.entry) e

    apart_places : (i j : ℕ) → Where i → Where j → (at after i).entry ≡ (at after j).entry → i ≡ j
    apart_places i j (inl p) (inl q) same = p.0 ∙ sym q.0
    apart_places i j (inl p) (inr q) same = absurd (c.fresh j q.1 q.0 (sym (entry q.2) ∙ sym same ∙ entry p.1))
    apart_places i j (inr p) (inl q) same = absurd (c.fresh i p.1 p.0 (sym (entry p.2) ∙ same ∙ entry q.1))
    apart_places i j (inr p) (inr q) same = s.apart i j p.1 q.1 (sym (entry p.2) ∙ same ∙ entry q.2)

    uncrossed_places : (i j : ℕ) → Where i → Where j → Clear (at after i) (at after j)
    uncrossed_places i j (inl p) (inl q) = rw (p.1, q.1) (not_both c.new)
    uncrossed_places i j (inl p) (inr q) = rw (p.1, q.2) (c.clear j q.1 q.0).0
    uncrossed_places i j (inr p) (inl q) = rw (p.2, q.1) (c.clear i p.1 p.0).1
    uncrossed_places i j (inr p) (inr q) = rw (p.2, q.2) (s.uncrossed i j p.1 q.1)

-- every order is still there, and is the same order
same_after : (a after : Account) → Change a after → (i : ℕ) → i < size a → SameOrder (at a i) (at after i)
same_after a after c i h = elim (c.one_place i (omega (arith, c.longer))) [
  | inl p ↦ rw (p.1, p.0) (c.kept (rw (sym p.0) h))
  | inr p ↦ rw p.2 (same_order (at a i))
]

-- after a request the account is sound, and has the orders that it had
pub record Stays (a after : Account) : Type 0 where
  pub sound : Sound after
  pub longer : size a ≤ size after
  pub same : (i : ℕ) → i < size a → SameOrder (at a i) (at after i)

stays_by : (a after : Account) → Sound a → Change a after → Stays a after
stays_by a after s c = record { sound = sound_after a after s c; longer = c.longer; same = same_after a after c }

pub stays : (a : Account) → Sound a → Stays a a
stays a s = record { sound = s; longer = omega arith; same = λ i h. same_order (at a i) }

-- the places after a line more, and after one line is set

place_more : (a after : Account) (l : Line) → after.lines ≡ a.lines ++ l ∷ [] → OnePlace a after (size a) l
place_more a after l e j h = go (cases_lt j (size a))
  where
    go : (j < size a) ⊎ (size a ≤ j) → ((j ≡ size a) × (at after j ≡ l)) ⊎ ((j ≡ size a → ⊥) × (j < size a) × (at after j ≡ at a j))
    go (inl short) = inr ((λ same. absurd (omega (arith, short, same))), short, ap (λ ls. get_or ls j no_line) e ∙ get_or_append_left a.lines (l ∷ []) no_line j short)
    go (inr long) =
        let last : j ≡ size a = omega (arith, long, h, ap length e, length_push a.lines l) in
        inl (last, ap (λ ls. get_or ls j no_line) e ∙ get_or_push a.lines l no_line j (sym last))

place_set : (a after : Account) (i : ℕ) (l : Line) → i < size a → after.lines ≡ set a.lines i l → OnePlace a after i l
place_set a after i l here e j h = go (cases_eq j i)
  where
    go : (j ≡ i) ⊎ (j ≡ i → ⊥) → ((j ≡ i) × (at after j ≡ l)) ⊎ ((j ≡ i → ⊥) × (j < size a) × (at after j ≡ at a j))
    go (inl same) = inl (same, ap (λ ls. get_or ls j no_line) e ∙ ap (λ k. get_or (set a.lines i l) k no_line) same ∙ get_or-set_same a.lines i l no_line here)
    go (inr other) =
        inr (other, omega (arith, h, ap length e, length-set a.lines i l), ap (λ ls. get_or ls j no_line) e ∙ get_or-set_other a.lines i j l no_line other)

-- the place of an order that the account has
place_of : (a : Account) (n : ℕ) → not (has a n) ≡ false → n - 1 < size a
place_of a n e =
    let parts = and_parts (leb 1 n) _ (not-false (has a n) e) in
    omega (arith, leb-true 1 n parts.0, leb-true n (size a) parts.1)

module _ (a : Account) (s : Sound a) where
  -- a line that keeps its entry number
  line_kept : (after : Account) (i : ℕ) (l : Line) → i < size a → after.lines ≡ set a.lines i l → after.entries ≡ a.entries
      → SameOrder (at a i) l → l.entry ≡ (at a i).entry → l.taken + l.cancelled ≤ l.volume → ClearOfOthers a i l → Change a after
  line_kept after i l here lines entries same entry spent clear =
      let long = ap length lines ∙ length-set a.lines i l in
      let u = s.used i here in
      record {
        place = i;
        new = l;
        one_place = place_set a after i l here lines;
        longer = omega (arith, long);
        few = omega (arith, long, s.few);
        grown = omega (arith, entries);
        number = same.number ∙ s.numbered i here;
        named = (omega (arith, entry, u.0), omega (arith, entry, u.1, entries));
        fresh = λ j h other e. other (s.apart j i h here (e ∙ entry));
        spent = spent;
        clear = clear;
        kept = λ _. same;
      }

  -- a line that takes the next entry number
  line_renewed : (after : Account) (i : ℕ) (l : Line) → i < size a → after.lines ≡ set a.lines i l → after.entries ≡ a.entries + 1
      → SameOrder (at a i) l → l.entry ≡ a.entries + 1 → l.taken + l.cancelled ≤ l.volume → ClearOfOthers a i l → Change a after
  line_renewed after i l here lines entries same entry spent clear =
      let long = ap length lines ∙ length-set a.lines i l in
      record {
        place = i;
        new = l;
        one_place = place_set a after i l here lines;
        longer = omega (arith, long);
        few = omega (arith, long, s.few);
        grown = omega (arith, entries);
        number = same.number ∙ s.numbered i here;
        named = (omega (arith, entry), omega (arith, entry, entries));
        fresh = λ j h other e. let u = (s.used j h).1 in absurd (omega (arith, u, e, entry));
        spent = spent;
        clear = clear;
        kept = λ _. same;
      }

  -- a line more
  line_added : (after : Account) (l : Line) → size a < 128 → after.lines ≡ a.lines ++ l ∷ [] → after.entries ≡ a.entries + 1
      → l.number ≡ size a + 1 → l.entry ≡ a.entries + 1 → l.taken + l.cancelled ≤ l.volume → ClearOfOthers a (size a) l → Change a after
  line_added after l room lines entries number entry spent clear =
      let long = ap length lines ∙ length_push a.lines l in
      record {
        place = size a;
        new = l;
        one_place = place_more a after l lines;
        longer = omega (arith, long);
        few = omega (arith, long, room);
        grown = omega (arith, entries);
        number = number;
        named = (omega (arith, entry), omega (arith, entry, entries));
        fresh = λ j h other e. let u = (s.used j h).1 in absurd (omega (arith, u, e, entry));
        spent = spent;
        clear = clear;
        kept = λ h. absurd (omega (arith, h));
      }

  -- what each request changes once it is accepted
  module _ (holds : ℕ → Bool) where
    enter_changes : (e : Entry) → first_refusal (tests holds a (request.Enter e)) ≡ None → Change a (accepted a (request.Enter e))
    enter_changes e ok =
        let rows = none_holds (tests holds a (request.Enter e)) ok in
        let room = leb-false 128 (size a) (or_parts (leb 128 (size a)) _ rows.1.0).0 in
        line_added (accepted a (request.Enter e)) (new_line a e) room refl refl refl refl (omega arith) (λ j h _. clear_of_each a (new_line a e) e refl refl refl rows.1.1.1.1.1.0 j h)

    amend_changes : (n limit : ℕ) → first_refusal (tests holds a (request.Amend n limit)) ≡ None → Change a (accepted a (request.Amend n limit))
    amend_changes n limit ok =
        let rows = none_holds (tests holds a (request.Amend n limit)) ok in
        let here = place_of a n rows.1.1.1.0 in
        let l = re_entered (line a n) (a.entries + 1) limit in
        let quiet : makes_quote (order_of l) ≡ false = ap (λ t. t && ltb 0 (left l)) (undisplayed (phase_of a.state) l.kind rows.1.1.1.1.1.0) in
        line_renewed (accepted a (request.Amend n limit)) (n - 1) l here refl refl
        (record { number = refl; kind = refl; side = refl; flag = refl; broker = refl; volume = refl }) refl (s.spent (n - 1) here) (λ j _ _. clear_of_all l (at a j) quiet)

    cancel_changes : (n : ℕ) → first_refusal (tests holds a (request.Cancel n)) ≡ None → Change a (accepted a (request.Cancel n))
    cancel_changes n ok =
        let here = place_of a n (none_holds (tests holds a (request.Cancel n)) ok).1.0 in
        let l = line a n in
        line_kept (accepted a (request.Cancel n)) (n - 1) (with_cancelled l) here refl refl
        (record { number = refl; kind = refl; side = refl; flag = refl; broker = refl; volume = refl }) refl
        (all_cancelled l.volume l.taken l.cancelled (s.spent (n - 1) here))
        (λ j h _. clear_with_less l (with_cancelled l) (at a j) refl refl refl (none_left l.volume l.taken l.cancelled) (s.uncrossed (n - 1) j here h, s.uncrossed j (n - 1) h here))
      where
        all_cancelled : (v t c : ℕ) → t + c ≤ v → t + (c + (v - t - c)) ≤ v
        all_cancelled v t c h = omega arith

        none_left : (v t c : ℕ) → 0 < v - t - (c + (v - t - c)) → 0 < v - t - c
        none_left v t c h = omega arith

    take_changes : (n v : ℕ) → first_refusal (tests holds a (request.Take n v)) ≡ None → Change a (accepted a (request.Take n v))
    take_changes n v ok =
        let rows = none_holds (tests holds a (request.Take n v)) ok in
        let here = place_of a n rows.1.0 in
        let l = line a n in
        let enough = ltb-false (left l) v (or_parts (eqb v 0) _ rows.1.1.1.1.0).1 in
        line_kept (accepted a (request.Take n v)) (n - 1) (with_taken l v) here refl refl
        (record { number = refl; kind = refl; side = refl; flag = refl; broker = refl; volume = refl }) refl
        (some_taken l.volume l.taken l.cancelled (s.spent (n - 1) here) enough)
        (λ j h _. clear_with_less l (with_taken l v) (at a j) refl refl refl (some_left l.volume l.taken l.cancelled) (s.uncrossed (n - 1) j here h, s.uncrossed j (n - 1) h here))
      where
        some_taken : (w t c : ℕ) → t + c ≤ w → v ≤ w - t - c → t + v + c ≤ w
        some_taken w t c h enough = omega arith

        some_left : (w t c : ℕ) → 0 < w - (t + v) - c → 0 < w - t - c
        some_left w t c h = omega arith

    accepted_stays : (r : Request) → first_refusal (tests holds a r) ≡ None → Stays a (accepted a r)
    accepted_stays (request.Enter e) ok = stays_by a (accepted a (request.Enter e)) s (enter_changes e ok)
    accepted_stays (request.Amend n limit) ok = stays_by a (accepted a (request.Amend n limit)) s (amend_changes n limit ok)
    accepted_stays (request.Cancel n) ok = stays_by a (accepted a (request.Cancel n)) s (cancel_changes n ok)
    accepted_stays (request.Take n v) ok = stays_by a (accepted a (request.Take n v)) s (take_changes n v ok)
    accepted_stays request.Advance ok = record {
      sound = record { few = s.few; numbered = s.numbered; used = s.used; apart = s.apart; spent = s.spent; uncrossed = s.uncrossed };
      longer = omega arith;
      same = λ i h. same_order (at a i);
    }

-- whatever is asked, the account stays sound and keeps its orders
pub noted_stays : (holds : ℕ → Bool) (a : Account) → Sound a → (r : Request) → Stays a (noted holds a r)
noted_stays holds a s r = go (first_refusal (tests holds a r)) refl
  where
    go : (o : Option Refusal) → first_refusal (tests holds a r) ≡ o → Stays a (changed o a (accepted a r))
    go None e = accepted_stays a s holds r e
    go (Some x) e = stays a s
