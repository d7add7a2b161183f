-- The points of an opened store's newest commit are its sessions' serials.
use Rattle.std.proofs.Common.{◌≡◌, ◌∙◌, ap, sym, arith, refl, ℕ, ◌<◌}
use Rattle.std.specs.Prelude.{Option, None, Some, slice_get}
use Rattle.std.proofs.lemmas.List.{get_or-map}
use Rattle.std.proofs.lemmas.Option.{slice_get_within}
use Rattle.fkv_base.specs.declared.numbers.Serial.{Serial}
use Rattle.law_opening.specs.Below.fkv_core.Openings.{IsOpeningWorld}
use Rattle.law_commit.specs.Below.fkv_keeper.Keeping.{Finality}
use Rattle.fkv_map.specs.History.{point_of}
use Rattle.law_opening.specs.Below.fkv_opening.Opening as opening
use Rattle.law_opening.specs.Below.fkv_opening.TheOpened.{Opened}
use Rattle.law_commit.specs.Below.fkv_session.Sessions.{SessionState}
use Rattle.law_commit.specs.Below.fkv_world.World.{Now}
use Rattle.law_commit.specs.LastSerials.{serial_at, serial_of}
use Rattle.law_commit.proofs.OfPoints.Taken.{none_past, point_past}

-- a session's point, as the store says it
pub point_so : (o : Opened) (session : ℕ) → session < o.shape.sessions → opening.point_of o session ≡ point_of o.points.items session
point_so o session there =
    let many = o.each_session in
    let none : Serial = record { 0 = 0 } in
    get_or-map (λ (point : Serial). point.0) o.points.items session none 0 (omega (arith, many, there))

pub points_open : (o : Opened) (n : Now) → IsOpeningWorld o n → (session : ℕ) → point_of n.keeper.last.points session ≡ serial_at n session
points_open o n its session = ap (λ (last : Finality). point_of last.points session) its.its_keeper.newest ∙ by_found (slice_get n.sessions session) refl
  where
    by_found : (found : Option SessionState) → slice_get n.sessions session ≡ found → point_of o.points.items session ≡ serial_at n session
    by_found None none =
        let past = none_past n.sessions session none in
        let seats = its.seats in
        let many = o.each_session in
        point_past o.points.items session (omega (arith, past, seats, many)) ∙ sym (ap serial_of none)
    by_found (Some s) found =
        let sits = its.its_sessions session s found in
        let within = slice_get_within n.sessions session s found in
        let seats = its.seats in
        sym (point_so o session (omega (arith, within, seats))) ∙ (sym sits.serial ∙ sym (ap serial_of found))
