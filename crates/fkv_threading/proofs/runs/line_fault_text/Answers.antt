-- What is formatted is the line.
use Rattle.std.specs.Prelude.{decimal}
use Rattle.fkv_threading.proofs.Program.{line_told}
use Rattle.fkv_threading.proofs.runs.line_fault_text.Goals as goal

pub returns : goal.returns
returns c = line_told c.new-text.result.items c.writeln.new.self.items (decimal c.args.line) c.name-name.result.now _ c.new-text.ensures.items c.in_ok-writeln.ensures.bytes c.name-name.ensures
