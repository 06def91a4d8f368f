-- Why no displayed buy ever meets a displayed sell.
use Rattle.std.proofs.Common.{◌≡◌, ℕ, zero, suc, ◌<◌, Bool, true, false, not, ◌&&◌, ltb, List, [], ◌∷◌, length, get_or, sym, refl, ap, ◌∙◌, arith}
use Rattle.std.specs.List.{list_any}
use Rattle.std.proofs.lemmas.List.{length-map, get_or-map}
use Rattle.std.proofs.lemmas.Bool.{and_parts, or_parts, leb-false, ltb-true, lt-ltb}
use Rattle.orders.specs.Kinds.{is_displayed, same_side}
use Rattle.orders.specs.declared.Entry.{Entry}
use Rattle.orders.specs.declared.Kind.{Kind}
use Rattle.orders.specs.declared.Kind.TheVariants.{Market, Limit, Displayed}
use Rattle.orders.specs.declared.Phase.{Phase}
use Rattle.orders.specs.declared.Phase.TheVariants as phase
use Rattle.orders.specs.declared.Side.{Side}
use Rattle.orders.specs.declared.Side.TheVariants.{Buy, Sell}
use Rattle.auction.specs.Totals.{reaches}
use Rattle.book.specs.Calls.{meets, crosses}
use Rattle.book.specs.Phases.{amends}
use Rattle.reference.specs.Quote.{makes_quote, quotes_on}
use Rattle.day.specs.Account.{Line, Account, left, order_of, orders, no_line}

no : {A : Type 0} → ◌≡◌ {A = Bool} true false → A
no clash = let zero_one : ◌≡◌ {A = ℕ} 0 1 = cc in absurd (omega arith)

-- where one is a displayed buy and the other a displayed sell, the buy stands below the sell
abbrev pub Clear : Line → Line → Type 0
Clear x y = quotes_on Buy (order_of x) ≡ true → quotes_on Sell (order_of y) ≡ true → x.limit < y.limit

-- no order is on both sides
pub not_both : (l : Line) → Clear l l
not_both l buys sells = go l.side (and_parts (same_side l.side Buy) _ buys).0 (and_parts (same_side l.side Sell) _ sells).0
  where
    go : (s : Side) → same_side s Buy ≡ true → same_side s Sell ≡ true → l.limit < l.limit
    go Buy b s = no (sym s)
    go Sell b s = no (sym b)

-- an order that does not make the quote is clear of all others
pub clear_of_all : (l other : Line) → makes_quote (order_of l) ≡ false → Clear l other × Clear other l
clear_of_all l other none = ((λ buys sells. no (sym (and_parts (same_side l.side Buy) _ buys).1 ∙ none)), (λ buys sells. no (sym (and_parts (same_side l.side Sell) _ sells).1 ∙ none)))

-- amended orders are not displayed
pub undisplayed : (p : Phase) (k : Kind) → not (amends p k) ≡ false → is_displayed k ≡ false
undisplayed p Market e = refl
undisplayed p Limit e = refl
undisplayed phase.Entry Displayed e = no e
undisplayed phase.Imbalance Displayed e = no e
undisplayed phase.Freeze Displayed e = no e
undisplayed phase.Extension Displayed e = no e
undisplayed phase.Closed Displayed e = no e

-- no element passes a test that none passes
none_passes : {A : Type 0} (test : A → Bool) (xs : List A) (i : ℕ) (d : A) → list_any test xs ≡ false → i < length xs → test (get_or xs i d) ≡ false
none_passes test [] i d none h = absurd (omega (arith, h))
none_passes test (x ∷ xs) zero d none h = (or_parts (test x) _ none).0
none_passes test (x ∷ xs) (suc i) d none h = none_passes test xs i d (or_parts (test x) _ none).1 (omega (arith, h))

-- a buy that does not meet a displayed sell is below it, and a sell that does not meet a displayed buy is above it
below : (s : Side) (quotes : Bool) (limit other : ℕ) → (same_side s Sell && quotes) ≡ true → (quotes && (not (same_side s Buy) && reaches Buy limit other)) ≡ false → limit < other
below Buy quotes limit other h e = no (sym h)
below Sell true limit other h e = leb-false other limit e
below Sell false limit other h e = no (sym h)

above : (s : Side) (quotes : Bool) (limit other : ℕ) → (same_side s Buy && quotes) ≡ true → (quotes && (not (same_side s Sell) && reaches Sell limit other)) ≡ false → other < limit
above Buy true limit other h e = leb-false limit other e
above Buy false limit other h e = no (sym h)
above Sell quotes limit other h e = no (sym h)

-- an order that crosses none is clear of each
pub clear_of_each : (a : Account) (l : Line) (e : Entry) → l.kind ≡ e.kind → l.side ≡ e.side → l.limit ≡ e.limit → crosses e (orders a) ≡ false
    → (j : ℕ) → j < length a.lines → Clear l (get_or a.lines j no_line) × Clear (get_or a.lines j no_line) l
clear_of_each a l e kind side limit none j h = ((λ buys sells. rw limit (below_other e.side refl buys sells)), (λ buys sells. rw limit (above_other e.side refl buys sells)))
  where
    other : Line
    other = get_or a.lines j no_line

    displayed : (s : Side) → quotes_on s (order_of l) ≡ true → is_displayed e.kind ≡ true
    displayed s q = ap is_displayed (sym kind) ∙ (and_parts (is_displayed l.kind) _ (and_parts (same_side l.side s) _ q).1).0

    not_met : (s : Side) → quotes_on s (order_of l) ≡ true → meets e.side e.limit (order_of other) ≡ false
    not_met s q =
        let all : list_any (meets e.side e.limit) (orders a) ≡ false = ap (λ t. t && list_any (meets e.side e.limit) (orders a)) (sym (displayed s q)) ∙ none in
        let here = none_passes (meets e.side e.limit) (orders a) j (order_of no_line) all (omega (arith, h, length-map a.lines order_of)) in
        ap (meets e.side e.limit) (sym (get_or-map order_of a.lines j no_line (order_of no_line) h)) ∙ here

    below_other : (s : Side) → e.side ≡ s → quotes_on Buy (order_of l) ≡ true → quotes_on Sell (order_of other) ≡ true → e.limit < other.limit
    below_other Buy is buys sells = below other.side (makes_quote (order_of other)) e.limit other.limit sells (ap (λ s. meets s e.limit (order_of other)) (sym is) ∙ not_met Buy buys)
    below_other Sell is buys sells = no (sym (ap (λ s. same_side s Buy) (sym (side ∙ is)) ∙ (and_parts (same_side l.side Buy) _ buys).0))

    above_other : (s : Side) → e.side ≡ s → quotes_on Buy (order_of other) ≡ true → quotes_on Sell (order_of l) ≡ true → other.limit < e.limit
    above_other Sell is buys sells = above other.side (makes_quote (order_of other)) e.limit other.limit buys (ap (λ s. meets s e.limit (order_of other)) (sym is) ∙ not_met Sell sells)
    above_other Buy is buys sells = no (sym (ap (λ s. same_side s Sell) (sym (side ∙ is)) ∙ (and_parts (same_side l.side Sell) _ sells).0))

-- an order with fewer shares left, and the same otherwise, is clear of what it was clear of
pub clear_with_less : (l less other : Line) → less.kind ≡ l.kind → less.side ≡ l.side → less.limit ≡ l.limit → (0 < left less → 0 < left l)
    → Clear l other × Clear other l → Clear less other × Clear other less
clear_with_less l less other kind side limit more clear =
    ((λ buys sells. rw limit (clear.0 (still Buy buys) sells)), (λ buys sells. rw limit (clear.1 buys (still Sell sells))))
  where
    both : (x y : Bool) → x ≡ true → y ≡ true → (x && y) ≡ true
    both x y p r = ap (λ t. t && y) p ∙ r

    still : (s : Side) → quotes_on s (order_of less) ≡ true → quotes_on s (order_of l) ≡ true
    still s q =
        let on_side = and_parts (same_side less.side s) _ q in
        let shown = and_parts (is_displayed less.kind) _ on_side.1 in
        let standing : ltb 0 (left l) ≡ true = lt-ltb 0 (left l) (more (ltb-true 0 (left less) shown.1)) in
        both (same_side l.side s) (makes_quote (order_of l)) (ap (λ x. same_side x s) (sym side) ∙ on_side.0) (both (is_displayed l.kind) (ltb 0 (left l)) (ap is_displayed (sym kind) ∙ shown.0) standing)
