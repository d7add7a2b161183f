-- One session after another.
use Rattle.std.proofs.Common.{◌≡◌, ◌∙◌, ap, ℕ, List, ◌++◌}
use Rattle.fkv_opening.specs.declared.opened_store.Opened.{Opened}
use Rattle.fkv_core.specs.OpeningWords.{words_of_session, words_once}
use Rattle.fkv_core.proofs.Lengths.{sessions_start, sessions_step}
use Rattle.fkv_core.proofs.opening_words.words_in_order.Goals as goal

pub loop-session-init : goal.loop-session-init
loop-session-init c =
    let o : Opened = c.args.opened.now in
    let front : List ℕ = words_once o c.args.index.now.taken in
    let first : c.extend_from_slice.new.self.items ≡ front =
    c.in_ok-extend_from_slice.ensures.items ∙ ap (λ (all : List ℕ). all ++ c.words_once.result) c.new-words.ensures.items ∙ c.words_once.ensures in
    first ∙ sessions_start o front

pub loop-session-preserved : goal.loop-session-preserved
loop-session-preserved c =
    let o : Opened = c.args.opened.now in
    let n : ℕ = c.loop-session.session in
    let more : c.extend_from_slice-in-loop-session.new.self.items ≡ c.loop-session.words.items ++ words_of_session o n =
    c.in_ok-extend_from_slice-2.ensures.items ∙ ap (λ (its : List ℕ). c.loop-session.words.items ++ its) c.words_of_session.ensures in
    sessions_step o (words_once o c.args.index.now.taken) c.loop-session.words.items c.extend_from_slice-in-loop-session.new.self.items n c.loop-session.invariant more
