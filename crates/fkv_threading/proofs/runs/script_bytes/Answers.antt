-- The reader's first bytes are read.
use Rattle.std.proofs.Common.{◌≡◌, ℕ, IfSome, take, subst}
use Rattle.fkv_threading.proofs.Program.{first_bytes}
use Rattle.fkv_threading.proofs.runs.script_bytes.Goals as goal

pub returns-in-Ok : goal.returns-in-Ok
returns-in-Ok g c =
    subst (λ (limit : ℕ). IfSome (g.I.Read.remaining c.args.input) (λ script. c.read_to_end.new.buf.items ≡ take limit script)) c.take.ensures.limit
    (first_bytes g.I.Read.remaining c.take.result.inner c.args.input c.take.result.limit c.new-bytes.result.items c.read_to_end.new.buf.items
    c.take.ensures.inner c.new-bytes.ensures.items c.in-Ok.ensures.bytes)
