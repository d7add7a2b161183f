-- Of a request's bounds there is one proof, so two requests of the same parts are one.
use Rattle.std.proofs.Common.{◌≡◌, ◌^◌, ◌<◌, Bool, refl}
use Rattle.std.specs.Prelude.{Option}
use Rattle.std.proofs.Math.Bridge.{le_prop}
use Rattle.fkv_base.specs.declared.numbers.Addr.{Addr}
use Rattle.fkv_base.specs.declared.numbers.Version.{Version}
use Rattle.fkv_map.specs.declared.operations.Op.{Op}
use Rattle.fkv_words.proofs.Shown.{same_made}
use Rattle.fkv_ops.specs.declared.requests.HeldRecord.{HeldRecord}
use Rattle.fkv_ops.specs.declared.requests.Request.{Request}

abbrev pub request_of : Op → Bool → Option HeldRecord → Addr → (version : Version) → (0 < version.0) × (version.0 < 2 ^ 45) → Request
request_of op has_latch held floor version h = record { op = op; version = version; has_latch = has_latch; held = held; floor = floor; some_version = h.0; version_fits = h.1 }

pub request_same : (op : Op) (has_latch : Bool) (held : Option HeldRecord) (floor : Addr) (version : Version) (p q : (0 < version.0) × (version.0 < 2 ^ 45)) → request_of op has_latch held floor version p ≡ request_of op has_latch held floor version q
request_same op has_latch held floor version p q =
    same_made {A = Version} {P = λ v. (0 < v.0) × (v.0 < 2 ^ 45)} (request_of op has_latch held floor) (λ v. hlevel le_prop) version version p q refl
