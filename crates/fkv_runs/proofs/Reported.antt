-- What a report of a crash tells, with its check and without.
use Rattle.std.proofs.Common.{◌≡◌, refl, sym, ap, subst, ◌∙◌, ℕ, Bool, true, false, List, [], ◌++◌, append-nil, Option}
use Rattle.std.specs.Io.KnownBytes.{Appends}
use Rattle.fkv_base.specs.declared.numbers.Key.{Key}
use Rattle.fkv_base.specs.declared.numbers.Serial.{Serial}
use Rattle.fkv_base.specs.declared.numbers.Value.{Value}
use Rattle.fkv_map.specs.History.{kept}
use Rattle.fkv_map.specs.declared.history.HistoryEntry.{HistoryEntry}
use Rattle.fkv_opening.specs.declared.opened_store.Opened.{Opened}
use Rattle.fkv_playing.specs.InTurn.{Writes}
use Rattle.fkv_playing.specs.Players.{PlayerState}
use Rattle.fkv_texts.proofs.Shown.{appends_both}
use Rattle.fkv_texts.specs.Reports.{check_text, report_text}
use Rattle.fkv_texts.specs.declared.reports.Opening.TheVariants as opening
use Rattle.fkv_runs.specs.Crashes.{Agrees, IsCrash, IsReplay, crash_text, kept_behind}
use Rattle.fkv_runs.specs.Openings.{Begins, IsRecovered}

-- the next life begins with the store that was recovered, and its report is written, with its check behind it
abbrev pub IsReported : {D : Type 0} → Bool → Opened → D → List HistoryEntry → List (Key × Value) → PlayerState D → Bool → Option (List ℕ) → Option (List ℕ) → Type 0
IsReported checks opened device history pairs player agrees before after =
    Begins opened device (kept_behind checks history opened) checks player
    × Agrees checks (kept history opened.points.items) pairs agrees
    × Appends before after (crash_text checks opened pairs agrees)

-- the report with its check
pub reported_checked : {D : Type 0} (checks : Bool) (opened : Opened) (device : D) (history after : List HistoryEntry) (pairs shown : List (Key × Value)) (points : List Serial)
    (player : PlayerState D) (agrees told : Bool) (before mid behind : Option (List ℕ))
    → checks ≡ true → points ≡ opened.points.items → shown ≡ pairs → after ≡ kept history points → agrees ≡ told
    → Begins opened device after checks player → IsReplay after pairs told
    → Appends before mid (report_text opening.Crash opened.number points shown) → Appends mid behind (check_text told)
    → IsReported checks opened device history pairs player agrees before behind
reported_checked checks opened device history after pairs shown points player agrees told before mid behind is_true its_points its_pairs its_kept its_told begins replay report check =
    let are_kept : after ≡ kept history opened.points.items = its_kept ∙ ap (λ (its : List Serial). kept history its) its_points in
    let its_begins : Begins opened device (kept history opened.points.items) true player =
    subst (λ (its : List HistoryEntry). Begins opened device its true player) are_kept (subst (λ (b : Bool). Begins opened device after b player) is_true begins) in
    let its_replay : IsReplay (kept history opened.points.items) pairs told = subst (λ (its : List HistoryEntry). IsReplay its pairs told) are_kept replay in
    let text : report_text opening.Crash opened.number points shown ≡ report_text opening.Crash opened.number opened.points.items pairs =
    ap (λ (its : List Serial). report_text opening.Crash opened.number its shown) its_points ∙ ap (λ (its : List (Key × Value)). report_text opening.Crash opened.number opened.points.items its) its_pairs in
    let says : Appends before behind (report_text opening.Crash opened.number opened.points.items pairs ++ check_text told) =
    appends_both before mid behind _ _ (subst (λ (its : List ℕ). Appends before mid its) text report) check in
    let whole : IsReported true opened device history pairs player told before behind = (its_begins, its_replay, says) in
    subst (λ (b : Bool). IsReported b opened device history pairs player agrees before behind) (sym is_true)
    (subst (λ (b : Bool). IsReported true opened device history pairs player b before behind) (sym its_told) whole)

-- the report where the run has no checks
pub reported_unchecked : {D : Type 0} (checks : Bool) (opened : Opened) (device : D) (history after : List HistoryEntry) (pairs shown : List (Key × Value)) (points : List Serial)
    (player : PlayerState D) (agrees : Bool) (before behind : Option (List ℕ))
    → checks ≡ false → points ≡ opened.points.items → shown ≡ pairs → after ≡ [] → agrees ≡ true
    → Begins opened device after checks player → Appends before behind (report_text opening.Crash opened.number points shown)
    → IsReported checks opened device history pairs player agrees before behind
reported_unchecked checks opened device history after pairs shown points player agrees before behind is_false its_points its_pairs nothing its_told begins report =
    let its_begins : Begins opened device [] false player =
    subst (λ (its : List HistoryEntry). Begins opened device its false player) nothing (subst (λ (b : Bool). Begins opened device after b player) is_false begins) in
    let text : report_text opening.Crash opened.number points shown ≡ report_text opening.Crash opened.number opened.points.items pairs ++ [] =
    ap (λ (its : List Serial). report_text opening.Crash opened.number its shown) its_points ∙ ap (λ (its : List (Key × Value)). report_text opening.Crash opened.number opened.points.items its) its_pairs
    ∙ sym (append-nil (report_text opening.Crash opened.number opened.points.items pairs)) in
    let whole : IsReported false opened device history pairs player true before behind = (its_begins, refl, subst (λ (its : List ℕ). Appends before behind its) text report) in
    subst (λ (b : Bool). IsReported b opened device history pairs player agrees before behind) (sym is_false)
    (subst (λ (b : Bool). IsReported false opened device history pairs player b before behind) (sym its_told) whole)

-- A crash is what is recovered from its image, and told.
pub crash_taken : {D : Type 0} (holds : List ℕ → D → Type 0) (image seen : List ℕ) (opened : Opened) (device : D) (pairs : List (Key × Value)) (before after : PlayerState D) (history : List HistoryEntry)
    (checks agrees : Bool) (written behind : Option (List ℕ))
    → seen ≡ image → history ≡ before.history → IsRecovered seen opened pairs → holds seen device → IsReported checks opened device history pairs after agrees written behind
    → Writes (IsCrash holds image checks before after agrees) written behind
crash_taken holds image seen opened device pairs before after history checks agrees written behind its_image its_history recovered its_device reported =
    let told : IsReported checks opened device before.history pairs after agrees written behind =
    subst (λ (its : List HistoryEntry). IsReported checks opened device its pairs after agrees written behind) its_history reported in
    let its_store : IsRecovered image opened pairs = subst (λ (its : List ℕ). IsRecovered its opened pairs) its_image recovered in
    let reads : holds image device = subst (λ (its : List ℕ). holds its device) its_image its_device in
    let crash : IsCrash holds image checks before after agrees (crash_text checks opened pairs agrees) =
    record { opened = opened; pairs = pairs; recovered = its_store; device = device; reads = reads; begins = told.0; checked = told.1; says = refl } in
    (crash_text checks opened pairs agrees, crash, told.2)
