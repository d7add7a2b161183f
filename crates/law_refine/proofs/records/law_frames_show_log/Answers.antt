-- The law: what stands for a record that has a frame is in it.
use Rattle.law_refine.proofs.OfRecords.Frames.{finds_framed, frames_show, frames_show_log, head_above}
use Rattle.law_refine.proofs.records.law_frames_show_log.Goals as goal

pub returns-clause-stands : goal.returns-clause-stands
returns-clause-stands c = λ opening start events opened. frames_show opening start events opened

pub returns-clause-finds : goal.returns-clause-finds
returns-clause-finds c = λ opening start events session its opened found. finds_framed opening start events session its opened found

pub returns-clause-shows : goal.returns-clause-shows
returns-clause-shows c = λ opening start low ghosts events opened none free published small warm. frames_show_log opening start low ghosts events opened none free published small warm

pub returns-clause-above : goal.returns-clause-above
returns-clause-above c = λ opening start events session its opened found attempts. head_above opening start events session its opened found attempts
