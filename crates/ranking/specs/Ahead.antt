-- The order of price points keeps the law of a ranking: four keys, of which the last is the name.
use Rattle.ranking.specs.Keys.{level}
use Rattle.ranking.specs.Points.{ahead}
use Rattle.ranking.specs.Ranks.{Ranks}
use Rattle.ranking.specs.declared.points.PricePoint.{PricePoint}
use Rattle.ranking.specs.Lexical.{none, smaller_strict, larger_strict, smaller_level, larger_level, ranks}

pub ahead_ranks : Ranks {X = PricePoint} (λ p. p.price) ahead
ahead_ranks =
    ranks (λ p. p.price) ahead
    (larger_strict (λ p. p.volume) _ (smaller_strict (λ p. p.imbalance) _ (smaller_strict (λ p. p.distance) _ (larger_strict (λ p. p.price) level none))))
    (λ x y l.
    let same_volume = (larger_level (λ p. p.volume) _ x y l).1 in
    let same_imbalance = (smaller_level (λ p. p.imbalance) _ x y same_volume).1 in
    let same_distance = (smaller_level (λ p. p.distance) _ x y same_imbalance).1 in
    (larger_level (λ p. p.price) level x y same_distance).0)
