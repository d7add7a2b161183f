-- The numbers of the calls in a table's list are below 2^64.
use Rattle.std.proofs.Common.{◌≡◌, ℕ, refl, sym, Bool, true, false, true≢false, List, [], ◌∷◌, ◌&&◌, arith}
use Rattle.std.proofs.lemmas.Bool.Decides.{nat_tests}
use Rattle.fkv_map.specs.Fits.{NumberFits, OpFits}
use Rattle.fkv_map.specs.declared.operations.Call.TheVariants as call
use Rattle.fkv_map.specs.declared.operations.Op.{Op}
use Rattle.fkv_map.specs.declared.operations.Op.TheVariants.{Upsert, Delete, Add, Max, Read, Merge}
use Rattle.fkv_seats.specs.Rule.{AreAllowed}
use Rattle.law_order.specs.Below.fkv_world.Runs.{World}
use Rattle.law_order.specs.Served.Fits.{CallsFit, EventFits}
use Rattle.fkv_table.specs.declared.happenings.Happening.{Happening}
use Rattle.fkv_table.specs.declared.happenings.Happening.TheVariants.{Calls, Moves, Commits, Turns, KeeperMoves}
use Rattle.fkv_table.specs.Events.{event_of, is_word, may_stand, op_fits}
use Rattle.fkv_table.specs.Planes.{plane}
use Rattle.law_threads.specs.Calls.{events_of}

number_so : (n : ℕ) → is_word n ≡ true → NumberFits n
number_so n is = grind (arith, nat_tests, is)

both_so : (a b : Bool) → (a && b) ≡ true → (a ≡ true) × (b ≡ true)
both_so true b is = (refl, is)
both_so false b is = absurd (true≢false (sym is))

two_so : (a b : ℕ) → (is_word a && is_word b) ≡ true → NumberFits a × NumberFits b
two_so a b is = let each = both_so (is_word a) (is_word b) is in (number_so a each.0, number_so b each.1)

op_so : (op : Op) → op_fits op ≡ true → OpFits op
op_so (Upsert key value) is = two_so key.0 value.0 is
op_so (Delete key) is = number_so key.0 is
op_so (Add key n) is = two_so key.0 n is
op_so (Max key n) is = two_so key.0 n is
op_so (Read key) is = number_so key.0 is
op_so (Merge key which n) is = two_so key.0 n is

event_so : (its : Happening) → may_stand its ≡ true → EventFits (event_of its)
event_so (Calls session (call.Op op)) is = op_so op is
event_so (Calls session call.Refresh) is = tt
event_so (Calls session call.Poll) is = tt
event_so (Calls session call.Sleep) is = tt
event_so (Calls session call.Wake) is = tt
event_so (Calls session call.Durable) is = tt
event_so (Moves session) is = tt
event_so (Commits kind) is = tt
event_so Turns is = tt
event_so (KeeperMoves granted done) is = tt

pub calls_fit : {K : Type 0} (at : K → World) (seen : List Happening) → AreAllowed (plane at) seen → CallsFit (events_of seen)
calls_fit at [] may = tt
calls_fit at (its ∷ before) may = (event_so its may.0, calls_fit at before may.1)
