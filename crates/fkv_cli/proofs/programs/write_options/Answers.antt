use Rattle.fkv_cli.proofs.Appending.{when_err}
use Rattle.fkv_cli.proofs.Words.{unread_breaks, unread_flushed, unread_told}
use Rattle.fkv_cli.proofs.programs.write_options.Goals as goal

pub returns-in_err-write_text-clause-part : goal.returns-in_err-write_text-clause-part
returns-in_err-write_text-clause-part g c = when_err c.from_residual.result (unread_breaks c.as_bytes.result.now _ _ c.as_bytes.ensures.value c.in_err-write_text.ensures.part)

pub returns-clause-whole : goal.returns-clause-whole
returns-clause-whole g c = unread_told c.flush.result c.as_bytes.result.now _ _ _ c.as_bytes.ensures.value c.in_ok-write_text.ensures.whole c.flush.ensures.bytes

pub returns-clause-part : goal.returns-clause-part
returns-clause-part g c = unread_flushed c.flush.result c.as_bytes.result.now _ _ _ c.as_bytes.ensures.value c.in_ok-write_text.ensures.whole c.flush.ensures.bytes
