-- The law, by what each event leaves standing.
use Rattle.law_refine.specs.Events.GhostEvents.{home_in, mapped}
use Rattle.law_refine.proofs.OfRecords.Life.{headers_show}
use Rattle.law_refine.proofs.OfRecords.LogHeaders.{enabled_fall}
use Rattle.law_refine.proofs.records.law_headers_show_log.Goals as goal

pub returns : goal.returns
returns c = λ opening start ghosts events opened none free published enabled.
    headers_show opening start ghosts events opened none free published (enabled_fall (home_in opening.now.shape.bucket_bits) ghosts (mapped opening events) enabled)
