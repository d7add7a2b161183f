-- The line is written, and stays behind the flush.
use Rattle.fkv_threading.proofs.Written.{flush_fails, flushed}
use Rattle.fkv_threading.proofs.runs.write_options.Goals as goal

pub returns-clause-text : goal.returns-clause-text
returns-clause-text g c = flushed c.flush.result c.as_bytes.result.now _ _ _ _ c.as_bytes.ensures.value c.in_ok-write_text.ensures.whole c.flush.ensures.bytes

pub returns-clause-part : goal.returns-clause-part
returns-clause-part g c = flush_fails c.flush.result c.as_bytes.result.now _ _ _ _ c.as_bytes.ensures.value c.in_ok-write_text.ensures.whole c.flush.ensures.bytes
