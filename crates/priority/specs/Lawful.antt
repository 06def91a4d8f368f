-- Both rules end with time, which tells any two pairs apart.
use Rattle.std.specs.Prelude.{◌≡◌, Bool}
use Rattle.priority.specs.Pairs.{pair_name}
use Rattle.priority.specs.Rules.{step, bid_key, offer_key, broker_key, by_time, before_by_steps, before_by_price}
use Rattle.priority.specs.declared.Pair.{Pair}
use Rattle.ranking.specs.Lexical.{Strict, Level, none, smaller_strict, larger_strict, smaller_level, larger_level, ranks}
use Rattle.ranking.specs.Keys.{smaller, level}
use Rattle.ranking.specs.Ranks.{Ranks}

time_strict : Strict by_time
time_strict = smaller_strict (λ p. p.buy.entry) _ (smaller_strict (λ p. p.sell.entry) level none)

time_names : (x y : Pair) → Level by_time x y → pair_name x ≡ pair_name y
time_names x y l =
    let (buy, rest) = smaller_level (λ p. p.buy.entry) (smaller (λ p. p.sell.entry) level) x y l in
    let (sell, _) = smaller_level (λ p. p.sell.entry) level x y rest in
    λ i. (buy i, sell i)

pub steps_rank : Ranks pair_name before_by_steps
steps_rank = ranks pair_name before_by_steps (smaller_strict step by_time time_strict) (λ x y l. time_names x y (smaller_level step by_time x y l).1)

pub price_rank : Ranks pair_name before_by_price
price_rank =
    ranks pair_name before_by_price
    (larger_strict (λ p. bid_key p.buy) _ (smaller_strict (λ p. offer_key p.sell) _ (smaller_strict broker_key by_time time_strict)))
    (λ x y l.
    let same_bid = (larger_level (λ p. bid_key p.buy) _ x y l).1 in
    let same_offer = (smaller_level (λ p. offer_key p.sell) _ x y same_bid).1 in
    time_names x y (smaller_level broker_key by_time x y same_offer).1)

-- a rule ranks whatever has a pair in it
pub ranked : {X : Type 0} {ahead : Pair → Pair → Bool} (pair_in : X → Pair) → Ranks pair_name ahead → Ranks (λ x. pair_name (pair_in x)) (λ x y. ahead (pair_in x) (pair_in y))
ranked pair_in law = record {
  apart = λ x. law.apart (pair_in x);
  chain = λ x y z. law.chain (pair_in x) (pair_in y) (pair_in z);
  decided = λ x y. law.decided (pair_in x) (pair_in y);
}
