-- By the law of prefixes, and by how a life begins behind a crash.
use Rattle.law_program.proofs.OfPlayedCalls.CrashReports.{crashes_take_kept}
use Rattle.law_program.proofs.crash_reports.law_crash_reports.Goals as goal

pub returns : goal.returns
returns g c = crashes_take_kept c.law_images_recovered.ensures c.law_of_the_past.ensures.opened _ _ c.law_each_life.ensures.begin c.law_log_opened.ensures.pairs
