-- Two rankings: price points by what would trade, and pairs of entries by time.
use Rattle.std.specs.Prelude.{Bool}
use Rattle.ranking.specs.Keys.{smaller, larger, level}
use Rattle.ranking.specs.declared.entries.EntryPair.{EntryPair}
use Rattle.ranking.specs.declared.points.PricePoint.{PricePoint}

-- larger volume, then smaller closing imbalance, then nearer to the reference, then higher price
abbrev pub ahead : PricePoint → PricePoint → Bool
ahead = larger (λ p. p.volume) (smaller (λ p. p.imbalance) (smaller (λ p. p.distance) (larger (λ p. p.price) level)))

-- earlier buy, then earlier sell
abbrev pub earlier : EntryPair → EntryPair → Bool
earlier = smaller (λ p. p.buy) (smaller (λ p. p.sell) level)
