-- What each phase allows.
use Rattle.std.specs.Prelude.{ℕ, ◌-◌, Bool, true, false, not, Some, None, Option, nat_lt}
use Rattle.orders.specs.Kinds.{same_side}
use Rattle.orders.specs.declared.Kind.{Kind}
use Rattle.orders.specs.declared.Kind.TheVariants.{Market, Limit, Displayed}
use Rattle.orders.specs.declared.PegFlag.{PegFlag}
use Rattle.orders.specs.declared.PegFlag.TheVariants.{Pegged, NotPegged}
use Rattle.orders.specs.declared.Phase.{Phase}
use Rattle.orders.specs.declared.Phase.TheVariants.{Entry, Imbalance, Freeze, Extension, Closed}
use Rattle.orders.specs.declared.Side.{Side}
use Rattle.reference.specs.References.{twice}
use Rattle.threshold.specs.Percents.{in_fail_band}
use Rattle.book.specs.declared.State.{State}
use Rattle.book.specs.declared.State.TheVariants as state

abbrev pub phase_of : State → Phase
phase_of state.Entry = Entry
phase_of state.Imbalance = Imbalance
phase_of state.Freeze = Freeze
phase_of (state.Extension reference pegs side remains) = Extension
phase_of (state.Closed price shares fills imbalance) = Closed

abbrev pub is_closed : Phase → Bool
is_closed Entry = false
is_closed Imbalance = false
is_closed Freeze = false
is_closed Extension = false
is_closed Closed = true

abbrev pub may_peg : PegFlag → Bool
may_peg Pegged = true
may_peg NotPegged = false

-- market orders are entered up to the imbalance phase, displayed ones up to the freeze, limit orders up to the extension;
-- in the freeze a limit order is pegged, and must allow it
abbrev pub admits : Phase → Kind → PegFlag → Bool
admits Entry kind flag = true
admits Imbalance kind flag = true
admits Freeze Market flag = false
admits Freeze Limit flag = may_peg flag
admits Freeze Displayed flag = true
admits Extension Market flag = false
admits Extension Limit flag = true
admits Extension Displayed flag = false
admits Closed kind flag = false

-- a limit order is amended up to the imbalance phase
abbrev pub amends : Phase → Kind → Bool
amends Entry Market = false
amends Entry Limit = true
amends Entry Displayed = false
amends Imbalance Market = false
amends Imbalance Limit = true
amends Imbalance Displayed = false
amends Freeze kind = false
amends Extension kind = false
amends Closed kind = false

-- closing orders are cancelled in the entry phase, displayed ones up to the freeze
abbrev pub cancels : Phase → Kind → Bool
cancels Entry kind = true
cancels Imbalance Market = false
cancels Imbalance Limit = false
cancels Imbalance Displayed = true
cancels Freeze Market = false
cancels Freeze Limit = false
cancels Freeze Displayed = true
cancels Extension kind = false
cancels Closed kind = false

-- displayed orders trade up to the freeze
abbrev pub takes : Phase → Kind → Bool
takes Entry Market = false
takes Entry Limit = false
takes Entry Displayed = true
takes Imbalance Market = false
takes Imbalance Limit = false
takes Imbalance Displayed = true
takes Freeze Market = false
takes Freeze Limit = false
takes Freeze Displayed = true
takes Extension kind = false
takes Closed kind = false

-- an amendment must be more aggressive in the imbalance phase
abbrev pub tightens : Phase → Bool
tightens Entry = false
tightens Imbalance = true
tightens Freeze = false
tightens Extension = false
tightens Closed = false

-- an advance ends the entry phase and the imbalance phase
abbrev pub advances : Phase → Bool
advances Entry = true
advances Imbalance = true
advances Freeze = false
advances Extension = false
advances Closed = false

abbrev pub next_state : State → State
next_state state.Entry = state.Imbalance
next_state state.Imbalance = state.Freeze
next_state state.Freeze = state.Freeze
next_state (state.Extension reference pegs side remains) = state.Extension reference pegs side remains
next_state (state.Closed price shares fills imbalance) = state.Closed price shares fills imbalance

-- an order of this side does not face the advertised one; nothing faces a balanced book
abbrev pub same_as : Option Side → Side → Bool
same_as None side = true
same_as (Some advertised) side = same_side advertised side

-- in the extension an order must be of the side opposite the advertised imbalance, no larger than what remains of it, and
-- have its limit in the fail band
abbrev pub wrong_side : State → Side → Bool
wrong_side state.Entry side = false
wrong_side state.Imbalance side = false
wrong_side state.Freeze side = false
wrong_side (state.Extension reference pegs advertised remains) side = same_as advertised side
wrong_side (state.Closed price shares fills imbalance) side = false

abbrev pub too_large : State → ℕ → Bool
too_large state.Entry volume = false
too_large state.Imbalance volume = false
too_large state.Freeze volume = false
too_large (state.Extension reference pegs advertised remains) volume = nat_lt remains volume
too_large (state.Closed price shares fills imbalance) volume = false

abbrev pub outside_band : State → ℕ → Bool
outside_band state.Entry limit = false
outside_band state.Imbalance limit = false
outside_band state.Freeze limit = false
outside_band (state.Extension reference pegs advertised remains) limit = not (in_fail_band (twice reference) limit)
outside_band (state.Closed price shares fills imbalance) limit = false

-- an order accepted in the extension lowers what remains of the imbalance
abbrev pub offset_by : State → ℕ → State
offset_by state.Entry volume = state.Entry
offset_by state.Imbalance volume = state.Imbalance
offset_by state.Freeze volume = state.Freeze
offset_by (state.Extension reference pegs advertised remains) volume = state.Extension reference pegs advertised (remains - volume)
offset_by (state.Closed price shares fills imbalance) volume = state.Closed price shares fills imbalance
