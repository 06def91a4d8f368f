-- From the greedy trades of the eligible orders to the allocation.
use Rattle.std.proofs.Common.{◌≡◌, ℕ, ◌+◌, ◌*◌, ◌≤◌, min, Bool, true, List, [], ◌∷◌, length, drop, sym, refl, ap, ◌∙◌, subst, inl, inr, arith}
use Rattle.std.proofs.lemmas.Bool.{both_ways, cases_eq}
use Rattle.std.specs.List.{AllByRecursion}
use Rattle.ranking.specs.Ranks.{Ranks}
use Rattle.auction.specs.Totals.{total}
use Rattle.orders.specs.declared.Side.TheVariants.{Buy, Sell}
use Rattle.orders.specs.declared.found.FoundOrder.{FoundOrder}
use Rattle.priority.specs.Pairs.{pair_name}
use Rattle.priority.specs.declared.Pair.{Pair}
use Rattle.allocation.specs.Allocation.{distinct, Refused, rule_at, trades_in, Allocated, NameOrders}
use Rattle.allocation.specs.Holdings.{held, left_of, all_left}
use Rattle.allocation.specs.Naming.{Apart, order_for, pair_for, by_name, NamesFound}
use Rattle.allocation.specs.Trades.{all_shares, Greedy}
use Rattle.allocation.specs.declared.held.Fill.{Fill}
use Rattle.allocation.specs.declared.held.Holding.{Holding}
use Rattle.allocation.specs.declared.held.LivePair.{LivePair}
use Rattle.allocation.proofs.Alone.{alone}
use Rattle.allocation.proofs.Eligible.{brought, both_held, product_few, held_apart}
use Rattle.allocation.proofs.Listing.{own_first, own_rest}
use Rattle.allocation.proofs.Settling.{settles}

-- distinct orders and enough lent memory do serve
pub not_refused : (orders : List FoundOrder) (pairs : List LivePair) (fills : List Fill) → 4096 ≤ length pairs → 127 ≤ length fills → distinct orders ≡ true → Refused orders pairs fills → ⊥
not_refused orders pairs fills work room all (inl few) = omega arith
not_refused orders pairs fills work room all (inr (inl few)) = omega arith
not_refused orders pairs fills work room all (inr (inr twice)) = both_ways _ twice all

entry_for : (hs : List Holding) (n : ℕ) → (order_for hs n).entry ≡ n
entry_for [] n = refl
entry_for (h ∷ hs) n =
    elim (cases_eq h.order.entry n) [
      | inl e ↦ ap (λ o. o.entry) (own_first h hs n e).1 ∙ e
      | inr ne ↦ ap (λ o. o.entry) (own_rest h hs n ne).1 ∙ entry_for hs n
    ]

-- a rule on names is a ranking of names
name_law : (ahead : Pair → Pair → Bool) → Ranks pair_name ahead → (bs ss : List Holding) → Ranks (λ (n : ℕ × ℕ). n) (by_name ahead bs ss)
name_law ahead law bs ss = record {
  apart = λ n. law.apart (pair_for bs ss n);
  chain = λ m n o. law.chain (pair_for bs ss m) (pair_for bs ss n) (pair_for bs ss o);
  decided = λ m n ne. law.decided (pair_for bs ss m) (pair_for bs ss n) (λ e. ne (sym (is m) ∙ e ∙ is n));
}
  where
    is : (n : ℕ × ℕ) → pair_name (pair_for bs ss n) ≡ n
    is n = λ i. (entry_for bs n.0 i, entry_for ss n.1 i)

-- Below, bs and ss are the eligible buys and sells.
module _ (p : ℕ) (orders : List FoundOrder) (bs ss : List Holding) (buys : bs ≡ held Buy p orders) (sells : ss ≡ held Sell p orders) where
  few_held : length orders ≤ 128 → length bs + length ss ≤ 128
  few_held few = omega (arith, ap length buys, ap length sells, both_held p orders)

  pub pairs_fit : length orders ≤ 128 → (n : ℕ) → 4096 ≤ n → length bs * length ss ≤ n
  pairs_fit few n room = omega (arith, product_few (length bs) (length ss) (few_held few))

  pub fills_fit : length orders ≤ 128 → (n : ℕ) → 127 ≤ n → length bs + length ss ≤ n + 1
  fills_fit few n room = omega (arith, few_held few)

  pub buys_apart : distinct orders ≡ true → Apart bs
  buys_apart all = subst Apart (sym buys) (held_apart Buy p orders all)

  pub sells_apart : distinct orders ≡ true → Apart ss
  sells_apart all = subst Apart (sym sells) (held_apart Sell p orders all)

  pub allocated : (ahead : Pair → Pair → Bool) → Ranks pair_name ahead → (before fills : List Fill) (count : ℕ) → count ≤ length fills
      → Greedy (by_name ahead bs ss) (left_of bs) (left_of ss) (trades_in count fills)
      → all_shares (trades_in count fills) ≡ min (all_left bs) (all_left ss) → drop count fills ≡ drop count before → Allocated ahead p orders before fills count
  allocated ahead law before fills count few greedy all others =
      let ts = trades_in count fills in
      let ranks = name_law ahead law (held Buy p orders) (held Sell p orders) in
      let greedy' = subst (λ b. Greedy (by_name ahead b (held Sell p orders)) (left_of b) (left_of (held Sell p orders)) ts) buys (subst (λ s. Greedy (by_name ahead bs s) (left_of bs) (left_of s) ts) sells greedy) in
      let settled = settles (rule_at ahead p orders) ranks _ _ ts greedy' in
      record {
        few = few;
        greedy = greedy';
        settled = settled;
        alone = λ us s. alone (rule_at ahead p orders) ranks _ _ us ts s settled;
        in_full = all ∙ (λ i. min (bought i) (sold i));
        others = others;
      }
    where
      bought : all_left bs ≡ total Buy p orders
      bought = ap all_left buys ∙ brought Buy p orders

      sold : all_left ss ≡ total Sell p orders
      sold = ap all_left sells ∙ brought Sell p orders

  -- fills that have the orders of the lists have the eligible orders
  pub names_orders : (fills : List Fill) → AllByRecursion (NamesFound bs ss) fills → NameOrders p orders fills
  names_orders fills found = subst (λ b. AllByRecursion (NamesFound b (held Sell p orders)) fills) buys (subst (λ s. AllByRecursion (NamesFound bs s) fills) sells found)
