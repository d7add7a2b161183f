use Rattle.fkv_creating.proofs.Sound.{no_triples, has_scan, has_chains, has_room}
use Rattle.fkv_creating.proofs.laws.law_new_is_sound.Goals as goal

pub returns-clause-triples : goal.returns-clause-triples
returns-clause-triples c = no_triples

pub returns-clause-scan : goal.returns-clause-scan
returns-clause-scan c = has_scan

pub returns-clause-chains : goal.returns-clause-chains
returns-clause-chains c = has_chains

pub returns-clause-room : goal.returns-clause-room
returns-clause-room c = has_room
