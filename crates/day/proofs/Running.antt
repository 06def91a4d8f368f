-- Lists of requests: the account stays sound, its orders stay, and the book that follows it keeps the law.
use Rattle.std.proofs.Common.{◌≡◌, ℕ, ◌+◌, ◌-◌, ◌<◌, ◌≤◌, Bool, true, leb, List, [], ◌∷◌, ◌++◌, length, get_or, Some, None, Ok, Option, Result, sym, refl, ap, ◌∙◌, subst, arith}
use Rattle.std.proofs.lemmas.List.{length-map, length_push, get_or-map, get_or_push}
use Rattle.std.proofs.lemmas.Bool.{and_parts, leb-true}
use Rattle.orders.specs.Tables.{blank, known}
use Rattle.orders.specs.declared.Entry.{Entry}
use Rattle.orders.specs.declared.refusal.Refusal.{Refusal}
use Rattle.book.specs.Calls.{recorded}
use Rattle.book.specs.Tests.{first_refusal, answered, changed}
use Rattle.book.specs.Views.{references_in, totals_from, notice_from}
use Rattle.book.specs.declared.requests.Answer.{Answer}
use Rattle.book.specs.declared.requests.Answer.TheVariants.{Entered}
use Rattle.book.specs.declared.requests.Request.{Request}
use Rattle.book.specs.declared.requests.Request.TheVariants.{Enter}
use Rattle.day.proofs.Changing.{at, size, SameOrder, Sound, Stays, stays, noted_stays}
use Rattle.day.proofs.Showing.{known_has, at_line, all_listed}
use Rattle.day.specs.Account.{Line, Account, begun, order_of, orders, no_line, line}
use Rattle.day.specs.Law.{book_of, Keeps, Uncrossed, Follows}
use Rattle.day.specs.Noting.{tests, new_line, accepted, noted, answer_noted, account}

pub sound_begun : (close : ℕ) → Sound (begun close)
sound_begun close = record {
  few = omega arith;
  numbered = λ i h. absurd (omega (arith, h));
  used = λ i h. absurd (omega (arith, h));
  apart = λ i j h k e. absurd (omega (arith, h));
  spent = λ i h. absurd (omega (arith, h));
  uncrossed = λ i j h k. absurd (omega (arith, h));
}

same_again : (x y z : Line) → SameOrder x y → SameOrder y z → SameOrder x z
same_again x y z p q = record {
  number = q.number ∙ p.number;
  kind = q.kind ∙ p.kind;
  side = q.side ∙ p.side;
  flag = q.flag ∙ p.flag;
  broker = q.broker ∙ p.broker;
  volume = q.volume ∙ p.volume;
}

module _ (holds : ℕ → Bool) where
  pub account_stays : (a : Account) → Sound a → (rs : List Request) → Stays a (account holds a rs)
  account_stays a s [] = stays a s
  account_stays a s (r ∷ rs) =
      let one = noted_stays holds a s r in
      let rest = account_stays (noted holds a r) one.sound rs in
      record {
        sound = rest.sound;
        longer = omega (arith, one.longer, rest.longer);
        same = λ i h. same_again (at a i) (at (noted holds a r) i) (at (account holds (noted holds a r) rs) i) (one.same i h) (rest.same i (omega (arith, h, one.longer)));
      }

  -- the account after one list and then another
  account_on : (a : Account) (past later : List Request) → account holds a (past ++ later) ≡ account holds (account holds a past) later
  account_on a [] later = refl
  account_on a (r ∷ past) later = account_on (noted holds a r) past later

  -- an accepted order gets the next number, and its line is as entered
  entered_line : (a : Account) (e : Entry) (n : ℕ) → answer_noted holds a (Enter e) ≡ Ok (Entered n)
      → (n ≡ size a + 1) × (noted holds a (Enter e) ≡ accepted a (Enter e))
  entered_line a e n = go (first_refusal (tests holds a (Enter e)))
    where
      go : (o : Option Refusal) → ◌≡◌ {A = Result Answer Refusal} (answered o (Entered (size a + 1))) (Ok (Entered n)) → (n ≡ size a + 1) × (changed o a (accepted a (Enter e)) ≡ accepted a (Enter e))
      go None q = ((let same : size a + 1 ≡ n = cc in sym same), refl)
      go (Some x) q = let zero_one : ◌≡◌ {A = ℕ} 0 1 = cc in absurd (omega arith)

  keeps_after : (a : Account) → Sound a → (e : Entry) (n : ℕ) (later : List Request) → answer_noted holds a (Enter e) ≡ Ok (Entered n)
      → Keeps n e (order_of (line (account holds (noted holds a (Enter e)) later) n))
  keeps_after a s e n later ok =
      let entered = entered_line a e n ok in
      let after = noted holds a (Enter e) in
      let first = noted_stays holds a s (Enter e) in
      let long : size a < size after = omega (arith, ap size entered.1, length_more a e) in
      let born : at after (size a) ≡ new_line a e = ap (λ x. at x (size a)) entered.1 ∙ get_or_push a.lines (new_line a e) no_line (size a) refl in
      let same : SameOrder (new_line a e) (at (account holds after later) (size a)) = subst (λ l. SameOrder l (at (account holds after later) (size a))) born ((account_stays after first.sound later).same (size a) long) in
      let place : size a ≡ n - 1 = omega (arith, entered.0) in
      let here = subst (λ k. SameOrder (new_line a e) (at (account holds after later) k)) place same in
      record {
        same_number = here.number ∙ sym entered.0;
        same_kind = here.kind;
        same_side = here.side;
        same_flag = here.flag;
        same_broker = here.broker;
        same_volume = here.volume;
      }
    where
      length_more : (a : Account) (e : Entry) → size (accepted a (Enter e)) ≡ size a + 1
      length_more a e = length_push a.lines (new_line a e)

  pub keeps : (a : Account) → Sound a → (past later : List Request) (e : Entry) (n : ℕ) → answer_noted holds (account holds a past) (Enter e) ≡ Ok (Entered n)
      → Keeps n e (order_of (line (account holds a (past ++ Enter e ∷ later)) n))
  keeps a s past later e n ok =
      subst (λ x. Keeps n e (order_of (line x n))) (sym (account_on a past (Enter e ∷ later)))
      (keeps_after (account holds a past) (account_stays a s past).sound e n later ok)

  -- the place of an order that the book knows
  known_place : (a : Account) → Sound a → (n : ℕ) → known (book_of a).table n ≡ true → (1 ≤ n) × (n - 1 < size a)
  known_place a s n k =
      let parts = and_parts (leb 1 n) _ (sym (known_has a s.few n) ∙ k) in
      let from = leb-true 1 n parts.0 in
      (from, omega (arith, from, leb-true n (size a) parts.1))

  -- the book that shows the account keeps the law
  pub follows : (close : ℕ) (rs : List Request) → Follows holds close rs (account holds (begun close) rs) (book_of (account holds (begun close) rs))
  follows close rs = record {
    shows = refl;
    apart = λ m n km kn same.
        let pm = known_place a s m km in
        let pn = known_place a s n kn in
        let e : (line a m).entry ≡ (line a n).entry = sym (ap (λ o. o.entry) (at_line a s.few m)) ∙ same ∙ ap (λ o. o.entry) (at_line a s.few n) in
        omega (arith, pm.0, pn.0, s.apart (m - 1) (n - 1) pm.1 pn.1 e);
    used = λ n k.
        let u = s.used (n - 1) (known_place a s n k).1 in
        let e : (recorded (book_of a) n).entry ≡ (line a n).entry = ap (λ o. o.entry) (at_line a s.few n) in
        (omega (arith, u.0, e), omega (arith, u.1, e));
    kept = λ past later e n split ok.
        subst (λ o. Keeps n e o) (sym (at_line a s.few n))
        (subst (λ xs. Keeps n e (order_of (line (account holds (begun close) xs) n))) (sym split) (keeps (begun close) (sound_begun close) past later e n ok));
    adds_up = λ n k. rw (at_line a s.few n) (whole (line a n).volume (line a n).taken (line a n).cancelled (s.spent (n - 1) (known_place a s n k).1));
    uncrossed = subst Uncrossed (sym (all_listed a s.few)) uncrossed_orders;
    totals = λ p. ap (λ os. totals_from holds os p (references_in a.state os a.sale a.close)) (all_listed a s.few);
    notice = ap (λ os. notice_from holds os (references_in a.state os a.sale a.close)) (all_listed a s.few);
  }
    where
      a : Account
      a = account holds (begun close) rs

      s : Sound (account holds (begun close) rs)
      s = (account_stays (begun close) (sound_begun close) rs).sound

      limit_at : (i : ℕ) → i < length (orders a) → get_or (orders a) i blank ≡ order_of (at a i)
      limit_at i h = get_or-map order_of a.lines i no_line blank (omega (arith, h, length-map a.lines order_of))

      uncrossed_orders : Uncrossed (orders a)
      uncrossed_orders i j hi hj =
          let long = length-map a.lines order_of in
          rw (limit_at i hi, limit_at j hj) (s.uncrossed i j (omega (arith, hi, long)) (omega (arith, hj, long)))

      whole : (v t c : ℕ) → t + c ≤ v → v ≡ t + c + (v - t - c)
      whole v t c h = omega arith
