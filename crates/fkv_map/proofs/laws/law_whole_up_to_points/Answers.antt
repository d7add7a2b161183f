use Rattle.fkv_map.proofs.Whole.{count_of_whole, whole_by_count}
use Rattle.fkv_map.proofs.laws.law_whole_up_to_points.Goals as goal

pub returns : goal.returns
returns c = λ history opening points. (count_of_whole history opening points, whole_by_count history opening points)
