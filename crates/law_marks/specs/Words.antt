-- What words show of a version.
use Rattle.std.specs.Prelude.{◌≡◌, ℕ, ◌+◌, ◌*◌, ◌^◌, ◌<◌, ◌≤◌}
use Rattle.fkv_base.specs.Limits.{last_serial, last_version}
use Rattle.fkv_base.specs.declared.numbers.Version.{Version}
use Rattle.fkv_base.specs.declared.phases.Phase.{Phase}
use Rattle.fkv_marks.specs.Marks.{mark}
use Rattle.fkv_words.specs.Layout.{header_word}
use Rattle.fkv_words.specs.PhaseWords.{phase_said}
use Rattle.fkv_words.specs.declared.phase_words.PhaseSaid.TheVariants.{Says}
use Rattle.fkv_index.specs.Slots.{entry_addr}
use Rattle.fkv_epoch.specs.Claiming.{phase_stored}
use Rattle.fkv_ops.specs.declared.requests.Request.{Request}
use Rattle.fkv_ops.specs.Trying.{header_of}
use Rattle.fkv_session.specs.CatchingUp.{cut_at}

-- The header of a request's record has the mark of the request's version, above the address of the record before it.
abbrev pub HeadersShowMarks : Type 0
HeadersShowMarks = (request : Request) (entry : ℕ) → header_word (header_of request entry) ≡ entry_addr entry + mark request.version.0 * 2 ^ 48

-- The cut word of a version has its mark, above the session's serial.
abbrev pub CutsShowMarks : Type 0
CutsShowMarks = (serial version : ℕ) → serial ≤ last_serial → cut_at serial version ≡ serial + mark version * 2 ^ 48

-- The phase word says the version itself.
abbrev pub PhasesShowVersions : Type 0
PhasesShowVersions = (its : Phase) (version : Version) → 0 < version.0 → version.0 ≤ last_version → phase_said (phase_stored its version) ≡ Says its version
