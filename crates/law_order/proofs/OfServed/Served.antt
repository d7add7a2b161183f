-- What was read at an address that was flushed by then is the record that is there.
use Rattle.std.proofs.Common.{◌≡◌, ℕ, ◌<◌, ◌^◌, ◌∙◌, sym, ap, subst, List, [], ◌∷◌, ◌++◌}
use Rattle.fkv_base.specs.declared.shapes.Shape.{Shape}
use Rattle.fkv_disk.specs.Bytes.{bytes_at}
use Rattle.law_log.specs.Chains.{Cell, Logged, Published}
use Rattle.law_log.specs.Enabled.{AreEnabled}
use Rattle.fkv_plane.specs.declared.places.RecordWord.TheVariants as rec
use Rattle.fkv_record.specs.Places as image
use Rattle.law_commit.specs.Below.law_local.Tries.MailRows.{IsRecordOf}
use Rattle.law_commit.specs.Below.fkv_world.Runs.{run}
use Rattle.law_commit.specs.Below.fkv_world.World.{Event}
use Rattle.law_opening.proofs.OfChanges.OfDevice.There.{CallsLaw, device_there, read_then, there_read}
use Rattle.law_opening.proofs.OfChanges.OfDevice.Words.{WordsLaw, header_fits, read_back, value_fits}
use Rattle.law_opening.proofs.OfChanges.OfFits.Held.{held_now}
use Rattle.law_opening.proofs.OfChanges.OfFits.Life.{life_fits, life_held}
use Rattle.law_opening.specs.Changes.Images.{IsInImage}
use Rattle.law_order.specs.Known.Begins.{BegunLife, begin_in, home_of_world}
use Rattle.law_commit.specs.Below.law_refine.Mail.MailEvents.{record_read}
use Rattle.law_commit.specs.Below.law_refine.Events.GhostEvents.{life_ghosts, mapped}
use Rattle.law_commit.specs.Below.law_refine.Records.Changes.{AreChangesPublished}
use Rattle.law_order.specs.Known.Floors.{AttemptsGoFrom}
use Rattle.law_order.specs.Served.Fits.{CallsFit, CellFits, CellsFit}
use Rattle.law_order.specs.Served.Served.{ServedShow}
use Rattle.law_order.proofs.OfServed.Device.{begins_fitting, flushed_fixed}
use Rattle.law_order.proofs.OfServed.Later.{life_stays}

-- ---- beginnings of a life
fit_before : (later earlier : List Event) → CallsFit (later ++ earlier) → CallsFit earlier
fit_before [] earlier fits = fits
fit_before (event ∷ later) earlier fits = fit_before later earlier fits.1

-- ---- all records are of numbers that fit
pub cells_fit : CallsLaw → WordsLaw → (life : BegunLife) (events : List Event) → CellsFit life.ghosts.log → CallsFit events → CellsFit (life_ghosts life.opening life.ghosts events).log
cells_fit calls words life events was fits = life_fits life.opening life.start life.lists life.ghosts (begins_fitting life was) calls words events fits

-- and no attempt goes by a floor below the begin that the log was opened with
pub attempts_go : CallsLaw → WordsLaw → (life : BegunLife) (events : List Event) → CellsFit life.ghosts.log → CallsFit events → AttemptsGoFrom (begin_in life.opening) (run life.opening events).now
attempts_go calls words life events was fits = λ session s found attempts.
    let held = held_now life.opening life.start life.ghosts events (life_held life.opening life.start life.lists life.ghosts (begins_fitting life was) calls words events fits) in
    ((held.sessions session s found).attempted attempts).0.1.1

-- ---- what the device gives then
image_record : WordsLaw → (begin : ℕ) (shape : Shape) (bytes : List ℕ) (a : ℕ) (logged : Logged) (cell : Cell) → logged ≡ Published cell → CellFits cell → IsInImage begin shape bytes a cell
    → IsRecordOf begin logged (record_read (bytes_at bytes (image.record_place shape a) 24))
image_record law begin shape bytes a logged cell e fits its =
    let header = its.words rec.Header in
    let key = its.words rec.Key in
    let value = its.words rec.Value in
    let read = ap record_read its.there ∙ read_back law header key value (header_fits header _ its.leads.version its.leads.says) (subst (λ (n : ℕ). n < 2 ^ 64) (sym its.key) fits.0) (value_fits value cell.value its.value fits.1) in
    subst (IsRecordOf begin logged) (sym read) (record { cell = cell; its = e; leads = its.leads; key = its.key; value = its.value })

-- ---- and what is there now
pub served_show : CallsLaw → WordsLaw → (life : BegunLife) (events : List Event)
    → CellsFit life.ghosts.log → CallsFit events → AreEnabled (home_of_world life.opening) life.ghosts (mapped life.opening events) → AreChangesPublished life.opening life.ghosts events
    → ServedShow life.opening life.ghosts events
served_show calls words life events was fits enabled published = λ session addr its earlier later cell cut gives e to.
    let enabled_all : AreEnabled (home_of_world life.opening) life.ghosts (mapped life.opening (later ++ earlier)) = subst (λ (es : List Event). AreEnabled (home_of_world life.opening) life.ghosts (mapped life.opening es)) cut enabled in
    let fits_then : CallsFit earlier = fit_before later earlier (subst CallsFit cut fits) in
    let cell_fits : CellFits cell = cells_fit calls words life earlier was fits_then addr.0 cell e in
    let begins = begins_fitting life was in
    let there = device_there life.opening life.start life.lists life.ghosts begins earlier calls addr.0 cell e to in
    let stays = life_stays life.opening life.map life.number life.ghosts later earlier addr.0 cell life.begins.log enabled_all (record { there = e; fixed = flushed_fixed life earlier addr.0 to }) in
    let now : (life_ghosts life.opening life.ghosts events).log.cells addr.0 ≡ Published cell = subst (λ (es : List Event). (life_ghosts life.opening life.ghosts es).log.cells addr.0 ≡ Published cell) (sym cut) stays.there in
    subst (IsRecordOf (begin_in life.opening) ((life_ghosts life.opening life.ghosts events).log.cells addr.0)) (sym (gives ∙ there_read life.opening life.start life.lists life.ghosts begins earlier addr.0))
    (image_record words (begin_in life.opening) life.opening.now.shape (read_then life.opening earlier) addr.0 ((life_ghosts life.opening life.ghosts events).log.cells addr.0) cell now cell_fits there)
