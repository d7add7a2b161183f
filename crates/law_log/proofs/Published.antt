-- A record that is published at the head that it leads to keeps what holds of a log: what it was made of still is its key's newest, and the content's value.
use Rattle.std.proofs.Common.{◌≡◌, ◌≢◌, ◌⊎◌, inl, inr, ℕ, ◌<◌, ◌≤◌, ◌∙◌, Bool, true, false, Some, List, [], ◌∷◌, refl, sym, ap, subst, arith}
use Rattle.fkv_map.specs.declared.history.HistoryEntry.{HistoryEntry}
use Rattle.fkv_map.specs.Map.{Map}
use Rattle.fkv_map.specs.Keys.{value_applied, reply_from}
use Rattle.fkv_map.proofs.Shown.{legal_one_more}
use Rattle.law_log.specs.Trace.{history_of, value_in, IsIn}
use Rattle.law_log.specs.Chains.{Cell, Logged, Reserved, Published, value_at, version_at, has_key, has_key_in, head_of, chain_from, first_such, IsWithin, VersionsFall}
use Rattle.law_log.specs.Ghosts.{Log, set_at, first_from, newest_of, newest_in, shown, effect_of}
use Rattle.law_log.specs.Enabled.{IsFixed, StandsStill, NoneAbove, IsLinked, IsOfHome, previous_of}
use Rattle.law_log.proofs.Chains.{set_there, set_else, at_one, same_or_other, own_number, other_number, same_number, from_head, from_else, in_from, first_is, IsFirst, first_else, first_there}
use Rattle.law_log.proofs.Versions.{has_in, in_has, latest_is_first}
use Rattle.law_log.proofs.Held.{Held, Grows, IsBlind, ArePartOf, not_reserved, first_along, falls_along, made_stays}
use Rattle.law_log.proofs.Steps.{linked_quietly, above_none}
use Rattle.law_log.proofs.Changed.{value_more_own, value_more_else, same_cell}

-- the chain of its home, with the record at its head
abbrev pub longer_chain : (ℕ → ℕ) → Log → ℕ → Cell → List ℕ
longer_chain home log a cell = a ∷ log.chains (home cell.key)

abbrev pub published_log : (ℕ → ℕ) → Log → ℕ → HistoryEntry → Cell → Log
published_log home log a entry cell = record log {
  cells = set_at log.cells a (Published cell);
  chains = set_at log.chains (home cell.key) (longer_chain home log a cell);
  history = effect_of entry cell ∷ log.history;
}

-- what a publishing meets
pub record MeetsPublish (home : ℕ → ℕ) (log : Log) (a : ℕ) (entry : HistoryEntry) (cell : Cell) : Type 0 where
  pub its : log.cells a ≡ Reserved entry cell
  pub its_head : head_of (log.chains (home cell.key)) ≡ cell.previous
  pub none_above : NoneAbove log (home cell.key) cell.version

-- the address is neither 0 nor in a chain yet
is_some : (home : ℕ → ℕ) (m : Map) (log : Log) (a : ℕ) (entry : HistoryEntry) (cell : Cell) → Held home m log → MeetsPublish home log a entry cell → 0 ≢ a
is_some home m log a entry cell held publish = above_none cell.previous a (held.made a entry cell publish.its).0

not_yet : (home : ℕ → ℕ) (m : Map) (log : Log) (a : ℕ) (entry : HistoryEntry) (cell : Cell) → Held home m log → MeetsPublish home log a entry cell → (h b : ℕ) → IsIn b (log.chains h) → b ≢ a
not_yet home m log a entry cell held publish h b is_in =
    let its = held.chains.in_chain h b is_in in
    λ same. not_reserved (log.cells b) its.cell cell entry its.its (ap log.cells same ∙ publish.its)

-- ---- what the record was made of
pub made_of : (home : ℕ → ℕ) (log : Log) (a : ℕ) (entry : HistoryEntry) (cell : Cell) → MeetsPublish home log a entry cell → first_from home log cell.key cell.previous ≡ newest_of home log cell.key
made_of home log a entry cell publish =
    ap (λ e. first_such (has_key cell.key) log.cells (chain_from e (log.chains (home cell.key)))) (sym publish.its_head)
    ∙ ap (first_such (has_key cell.key) log.cells) (from_head (log.chains (home cell.key)))

old_now : (home : ℕ → ℕ) (m : Map) (log : Log) (a : ℕ) (entry : HistoryEntry) (cell : Cell) → Held home m log → MeetsPublish home log a entry cell
    → value_at (log.cells (first_from home log cell.key cell.previous)) ≡ value_in m log.history cell.key
old_now home m log a entry cell held publish = ap (λ i. value_at (log.cells i)) (made_of home log a entry cell publish) ∙ held.shows cell.key

old_still : (home : ℕ → ℕ) (m : Map) (log : Log) (a : ℕ) (entry : HistoryEntry) (cell : Cell) → Held home m log → MeetsPublish home log a entry cell → StandsStill log (newest_of home log cell.key) cell.version
old_still home m log a entry cell held publish = subst (λ i. StandsStill log i cell.version) (made_of home log a entry cell publish) (held.made a entry cell publish.its).1.still

-- ---- what others are left
pub published_grows : (home : ℕ → ℕ) (m : Map) (log : Log) (a : ℕ) (entry : HistoryEntry) (cell : Cell) → Held home m log → MeetsPublish home log a entry cell → Grows home m log (published_log home log a entry cell)
published_grows home m log a entry cell held publish = record {
  published = λ b its is. elim (at_one log.cells a (Published cell) b) [
    | inl here ↦ absurd (not_reserved (log.cells b) its cell entry is (ap log.cells here.0 ∙ publish.its))
    | inr else_ ↦ record { value = its.value; still = else_.1 ∙ is; kept = inl refl }
  ];
  none = set_else log.cells a (Published cell) 0 (is_some home m log a entry cell held publish) ∙ held.none;
  chains = λ h b within. elim (at_one log.chains (home cell.key) (longer_chain home log a cell) h) [
    | inl here ↦ (
      ap (chain_from b) here.1 ∙ from_else b a (log.chains (home cell.key)) (apart h b within) ∙ ap (λ i. chain_from b (log.chains i)) (sym here.0),
      subst (IsWithin b) (sym here.1) (more b (log.chains (home cell.key)) (subst (λ i. IsWithin b (log.chains i)) here.0 within)),
    )
    | inr else_ ↦ (ap (chain_from b) else_.1, subst (IsWithin b) (sym else_.1) within)
  ];
  fixed = stays log.fixed;
  newer = effect_of entry cell ∷ [];
  longer = refl;
}
  where
    stays : (n : ℕ) → n ≤ n
    stays n = omega arith

    more : (b : ℕ) (chain : List ℕ) → IsWithin b chain → IsWithin b (a ∷ chain)
    more b chain (inl none) = inl none
    more b chain (inr is_in) = inr (inr is_in)

    apart : (h b : ℕ) → IsWithin b (log.chains h) → a ≢ b
    apart h b (inl none) = λ same. is_some home m log a entry cell held publish (sym none ∙ sym same)
    apart h b (inr is_in) = λ same. not_yet home m log a entry cell held publish h b is_in (sym same)

-- ---- what holds
-- the record is the first in its home's chain that passes a test, where it passes
pub newest_own : (home : ℕ → ℕ) (log : Log) (a : ℕ) (entry : HistoryEntry) (cell : Cell) (test : Logged → Bool) → test (Published cell) ≡ true
    → first_such test (published_log home log a entry cell).cells ((published_log home log a entry cell).chains (home cell.key)) ≡ a
newest_own home log a entry cell test passes =
    let cells = set_at log.cells a (Published cell) in
    ap (first_such test cells) (set_there log.chains (home cell.key) (longer_chain home log a cell))
    ∙ first_there test cells a (log.chains (home cell.key)) (ap test (set_there log.cells a (Published cell)) ∙ passes)

-- and where it doesn't, the first is the one that it was
pub newest_else : (home : ℕ → ℕ) (m : Map) (log : Log) (a : ℕ) (entry : HistoryEntry) (cell : Cell) → Held home m log → MeetsPublish home log a entry cell → (test : Logged → Bool) → IsBlind test → test (Published cell) ≡ false
    → (h : ℕ) → first_such test (published_log home log a entry cell).cells ((published_log home log a entry cell).chains h) ≡ first_such test log.cells (log.chains h)
newest_else home m log a entry cell held publish test blind fails h =
    let log' = published_log home log a entry cell in
    let cells = set_at log.cells a (Published cell) in
    let along = first_along home m log log' held.chains (published_grows home m log a entry cell held publish) test blind h (log.chains h) (λ b is_in. is_in) in
    elim (at_one log.chains (home cell.key) (longer_chain home log a cell) h) [
      | inl here ↦ ap (first_such test cells) here.1
          ∙ first_else test cells a (log.chains (home cell.key)) (ap test (set_there log.cells a (Published cell)) ∙ fails)
          ∙ ap (λ i. first_such test cells (log.chains i)) (sym here.0) ∙ along
      | inr else_ ↦ ap (first_such test cells) else_.1 ∙ along
    ]

-- what stood first is another record
pub first_apart : (home : ℕ → ℕ) (m : Map) (log : Log) (a : ℕ) (entry : HistoryEntry) (cell : Cell) → Held home m log → MeetsPublish home log a entry cell → (test : Logged → Bool) (h : ℕ) (chain : List ℕ) (x : ℕ)
    → ArePartOf log h chain → IsFirst test log.cells chain x → x ≢ a
first_apart home m log a entry cell held publish test h chain x part (inl none) = λ same. is_some home m log a entry cell held publish (sym none ∙ same)
first_apart home m log a entry cell held publish test h chain x part (inr some) = not_yet home m log a entry cell held publish h x (part x some.0)

pub held_published : (home : ℕ → ℕ) (m : Map) (log : Log) (a : ℕ) (entry : HistoryEntry) (cell : Cell) → Held home m log → MeetsPublish home log a entry cell → Held home m (published_log home log a entry cell)
held_published home m log a entry cell held publish =
    let log' = published_log home log a entry cell in
    let chain = longer_chain home log a cell in
    let grows = published_grows home m log a entry cell held publish in
    let made = held.made a entry cell publish.its in
    let there : log'.cells a ≡ Published cell = set_there log.cells a (Published cell) in
    let old = old_now home m log a entry cell held publish in
    let else_at : (h b : ℕ) → IsIn b (log.chains h) → log'.cells b ≡ log.cells b =
    λ h b is_in. set_else log.cells a (Published cell) b (not_yet home m log a entry cell held publish h b is_in) in
    let shows_own : shown home log' cell.key ≡ value_in m log'.history cell.key =
    ap (λ i. value_at (log'.cells i)) (newest_own home log a entry cell (has_key cell.key) (own_number cell.key)) ∙ ap value_at there
    ∙ made.1.its_value ∙ ap (λ v. value_applied v entry.op) old ∙ sym (value_more_own m log.history (effect_of entry cell) cell.key made.1.its_key) in
    let linked_else : (h : ℕ) → IsLinked log'.cells (log.chains h) =
    λ h. linked_quietly log.cells log'.cells (log.chains h) (λ b is_in. ap previous_of (else_at h b is_in)) (held.chains.linked h) in
    record {
      chains = record {
        in_chain = λ h b is_in. elim (at_one log.chains (home cell.key) chain h) [
          | inl here ↦ in_longer h b (sym here.0) there else_at (subst (IsIn b) here.1 is_in)
          | inr else_ ↦ in_older h h b refl else_at (subst (IsIn b) else_.1 is_in)
        ];
        its_chain = λ b its is. elim (at_one log.cells a (Published cell) b) [
          | inl here ↦ subst (λ c. IsIn b (log'.chains (home c.key))) (same_cell cell its (sym here.1 ∙ is))
              (subst (IsIn b) (sym (set_there log.chains (home cell.key) chain)) (inl (sym here.0)))
          | inr else_ ↦ in_more (home its.key) b (held.chains.its_chain b its (sym else_.1 ∙ is))
        ];
        linked = λ h. elim (at_one log.chains (home cell.key) chain h) [
          | inl here ↦ subst (IsLinked log'.cells) (sym here.1) (
            ap previous_of there ∙ ap (λ e. Some e) (sym publish.its_head),
            subst (λ e. e < a) (sym publish.its_head) made.0,
            linked_else (home cell.key),
          )
          | inr else_ ↦ subst (IsLinked log'.cells) (sym else_.1) (linked_else h)
        ];
      };
      none = grows.none;
      some_fixed = held.some_fixed;
      falls = λ h. elim (at_one log.chains (home cell.key) chain h) [
        | inl here ↦ subst (VersionsFall log'.cells) (sym here.1) (
          λ b is_in. subst (λ v. v ≤ version_at (log'.cells a)) (sym (ap version_at (else_at (home cell.key) b is_in)))
              (subst (λ v. version_at (log.cells b) ≤ v) (sym (ap version_at there)) (publish.none_above b is_in)),
          falls_along home m log log' held.chains grows (home cell.key) (held.falls (home cell.key)),
        )
        | inr else_ ↦ subst (VersionsFall log'.cells) (sym else_.1) (falls_along home m log log' held.chains grows h (held.falls h))
      ];
      newest = λ b its is. elim (at_one log.cells a (Published cell) b) [
        | inl here ↦ inl (ap (λ c. newest_in home log' c.version c.key) (sym (same_cell cell its (sym here.1 ∙ is)))
            ∙ newest_own home log a entry cell (has_key_in cell.version cell.key) (in_has cell.version cell.key (Published cell) (own_number cell.key) refl) ∙ sym here.0)
        | inr else_ ↦ newest_older b its (sym else_.1 ∙ is) (has_key_in its.version its.key (Published cell)) refl
      ];
      shows = λ key. elim (same_or_other cell.key key) [
        | inl same ↦ subst (λ k. shown home log' k ≡ value_in m log'.history k) same shows_own
        | inr other ↦ ap (λ i. value_at (log'.cells i)) (newest_else home m log a entry cell held publish (has_key key) (λ c value. refl) (other_number cell.key key other) (home key))
            ∙ ap value_at (set_else log.cells a (Published cell) (newest_of home log key)
            (first_apart home m log a entry cell held publish (has_key key) (home key) (log.chains (home key)) (newest_of home log key) (λ b is_in. is_in) (first_is (has_key key) log.cells (log.chains (home key)))))
            ∙ held.shows key ∙ sym (value_more_else m log.history (effect_of entry cell) key (λ is. other (made.1.its_key ∙ is)))
      ];
      legal = legal_one_more m (history_of log.history) entry held.legal
          (made.1.its_reply ∙ ap (λ v. reply_from v entry.op) (old ∙ ap (value_in m log.history) made.1.its_key));
      made = λ b entry' its is. elim (at_one log.cells a (Published cell) b) [
        | inl here ↦ absurd (not_reserved (log'.cells b) cell its entry' here.1 is)
        | inr else_ ↦ let made' = held.made b entry' its (sym else_.1 ∙ is) in (
          made'.0,
          made_stays home m log log' held.chains held.none grows entry' its
              (ap value_at (set_else log.cells a (Published cell) (first_from home log its.key its.previous)
              (first_apart home m log a entry cell held publish (has_key its.key) (home its.key) (chain_from its.previous (log.chains (home its.key))) (first_from home log its.key its.previous)
              (λ c is_in. in_from its.previous c (log.chains (home its.key)) is_in) (first_is (has_key its.key) log.cells (chain_from its.previous (log.chains (home its.key)))))))
              made'.1,
        )
      ];
    }
  where
    in_older : (h h' b : ℕ) → h' ≡ h → ((h b : ℕ) → IsIn b (log.chains h) → set_at log.cells a (Published cell) b ≡ log.cells b) → IsIn b (log.chains h')
        → IsOfHome home h (set_at log.cells a (Published cell) b)
    in_older h h' b same else_at is_in =
        let its = held.chains.in_chain h' b is_in in
        record { cell = its.cell; its = else_at h' b is_in ∙ its.its; its_home = its.its_home ∙ same }

    in_longer : (h b : ℕ) → home cell.key ≡ h → set_at log.cells a (Published cell) a ≡ Published cell → ((h b : ℕ) → IsIn b (log.chains h) → set_at log.cells a (Published cell) b ≡ log.cells b)
        → IsIn b (longer_chain home log a cell) → IsOfHome home h (set_at log.cells a (Published cell) b)
    in_longer h b same there else_at (inl first) = record { cell = cell; its = ap (set_at log.cells a (Published cell)) (sym first) ∙ there; its_home = same }
    in_longer h b same there else_at (inr older) =
        let its = held.chains.in_chain (home cell.key) b older in
        record { cell = its.cell; its = else_at (home cell.key) b older ∙ its.its; its_home = its.its_home ∙ same }

    in_more : (h b : ℕ) → IsIn b (log.chains h) → IsIn b (set_at log.chains (home cell.key) (longer_chain home log a cell) h)
    in_more h b is_in = elim (at_one log.chains (home cell.key) (longer_chain home log a cell) h) [
      | inl here ↦ subst (IsIn b) (sym here.1) (inr (subst (λ i. IsIn b (log.chains i)) here.0 is_in))
      | inr else_ ↦ subst (IsIn b) (sym else_.1) is_in
    ]

    not_less : (v w : ℕ) → v < w → w ≡ v → ⊥
    not_less v w less same = omega (arith, less, same)

    its_old : (b : ℕ) (its : Cell) → log.cells b ≡ Published its → (has_key its.key (Published cell) ≡ true) × (cell.version ≡ its.version) → newest_in home log its.version its.key ≡ b → IsFixed log b
    its_old b its is same first =
        let its_key : cell.key ≡ its.key = same_number cell.key its.key same.0 in
        let none_above : NoneAbove log (home its.key) its.version = subst (λ k. NoneAbove log (home k) its.version) its_key (subst (NoneAbove log (home cell.key)) same.1 publish.none_above) in
        let its_own : has_key_in its.version its.key (log.cells b) ≡ true = in_has its.version its.key (log.cells b) (ap (has_key its.key) is ∙ own_number its.key) (ap version_at is) in
        let old : newest_of home log cell.key ≡ b =
        ap (newest_of home log) its_key ∙ sym (latest_is_first its.version its.key b log.cells (log.chains (home its.key)) none_above (held.falls (home its.key)) (held.chains.its_chain b its is) its_own) ∙ first in
        elim (old_still home m log a entry cell held publish) [
          | inl fixed ↦ subst (λ i. i < log.fixed) old fixed
          | inr older ↦ absurd (not_less its.version cell.version (subst (λ v. v < cell.version) (ap version_at (ap log.cells old ∙ is)) older) same.1)
        ]

    -- one of its key and version that may still change would be what the record was made of
    newest_older : (b : ℕ) (its : Cell) → log.cells b ≡ Published its → (t : Bool) → has_key_in its.version its.key (Published cell) ≡ t
        → (newest_in home (published_log home log a entry cell) its.version its.key ≡ b) ⊎ IsFixed log b
    newest_older b its is false other = elim (held.newest b its is) [
      | inl first ↦ inl (newest_else home m log a entry cell held publish (has_key_in its.version its.key) (λ c value. refl) other (home its.key) ∙ first)
      | inr below ↦ inr below
    ]
    newest_older b its is true own = elim (held.newest b its is) [
      | inl first ↦ inr (its_old b its is (has_in its.version its.key (Published cell) own) first)
      | inr below ↦ inr below
    ]
