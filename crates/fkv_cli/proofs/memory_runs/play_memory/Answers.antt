use Rattle.std.proofs.Common.{List, ℕ, refl, subst, sym}
use Rattle.fkv_creating.specs.Created.{IsCreated}
use Rattle.fkv_runs.specs.Openings.{CrashesFrom}
use Rattle.fkv_runs.proofs.Shown.{none_behind_calls}
use Rattle.fkv_cli.proofs.Creating.{crashes_of_created}
use Rattle.fkv_cli.proofs.Endings.{lives_break, lives_in_memory, refused_new}
use Rattle.fkv_cli.proofs.memory_runs.play_memory.Goals as goal

pub returns-in-Ok-clause-whole : goal.returns-in-Ok-clause-whole
returns-in-Ok-clause-whole g c =
    lives_in_memory _ c.args.options.now c.args.shape c.in-Ok.opened _ _ c.args.pieces.now _ _ c.play_lives-ended.result c.in-Ok.ensures.new
    (subst (IsCreated c.args.shape) (sym (c.in-Ok.ensures.bytes c.requires.honest)) (c.law_new_stores.ensures.created _ c.args.shape)) (c.in-Ok.ensures.ok c.requires.honest)
    (record { is_honest = c.in-Ok.ensures.honest.0 c.requires.honest; reads = refl; synced = c.in-Ok.ensures.synced c.requires.honest; sound = none_behind_calls _ _ _ _ c.in-Ok.ensures.counted c.requires.sound })
    (subst (λ (image : List ℕ). CrashesFrom g.M.Device.expects image c.create_opened.new.d) (sym (c.in-Ok.ensures.bytes c.requires.honest)) (crashes_of_created g.M.Device.expects _ c.args.shape _ _ c.requires.crashes c.in-Ok.ensures.kinds)) c.play_lives-ended.ensures.whole

pub returns-in-Ok-clause-part : goal.returns-in-Ok-clause-part
returns-in-Ok-clause-part g c =
    lives_break _ c.args.options.now c.args.shape c.in-Ok.opened _ _ c.args.pieces.now _ _ c.play_lives-ended.result c.in-Ok.ensures.new
    (subst (IsCreated c.args.shape) (sym (c.in-Ok.ensures.bytes c.requires.honest)) (c.law_new_stores.ensures.created _ c.args.shape)) (c.in-Ok.ensures.ok c.requires.honest)
    (record { is_honest = c.in-Ok.ensures.honest.0 c.requires.honest; reads = refl; synced = c.in-Ok.ensures.synced c.requires.honest; sound = none_behind_calls _ _ _ _ c.in-Ok.ensures.counted c.requires.sound })
    (subst (λ (image : List ℕ). CrashesFrom g.M.Device.expects image c.create_opened.new.d) (sym (c.in-Ok.ensures.bytes c.requires.honest)) (crashes_of_created g.M.Device.expects _ c.args.shape _ _ c.requires.crashes c.in-Ok.ensures.kinds)) c.play_lives-ended.ensures.part

pub returns-in-Err-clause-whole : goal.returns-in-Err-clause-whole
returns-in-Err-clause-whole g c = refused_new _ _ _ _ _ _ c.refuse.result c.refuse.ensures.text c.refuse.ensures.memory c.in-Err.ensures.err
