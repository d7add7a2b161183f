-- Texts that are the same in every picture.
use Rattle.std.specs.Prelude.{ℕ, List, [], ◌∷◌, ◌++◌, codes}
use Rattle.fkv_picture.specs.declared.stills.Still.{Still}
use Rattle.fkv_picture.specs.declared.stills.Still.TheVariants.{Opening, LogLegend, IndexLegend}

-- the frame with its inks; what the inks of the strip stand for; what those of the squares stand for
unfoldable pub still_text : Still → List ℕ
still_text Opening =
    codes "<svg xmlns='http://www.w3.org/2000/svg' viewBox='0 0 1200 720' font-family='sans-serif' font-size='14' fill='#333'>"
    ++ codes "<style>.head{font-size:22px}.part{font-size:16px;font-weight:bold}.right{text-anchor:end}.back{fill:#fff}.free{fill:#e9edf0}"
    ++ codes ".valid{fill:#2a9d8f}.lost{fill:#e76f51}.invalid{fill:#e9c46a}.newer{fill:#8e5bd0}.none{fill:#264653}.used{fill:#4f7ea8}"
    ++ codes ".b0{fill:#e9edf0}.b1{fill:#c6dbef}.b2{fill:#8fbfe0}.b3{fill:#4a98c9}.b4{fill:#1764ab}.b5{fill:#c0392b}</style>"
    ++ codes "<rect class='back' width='1200' height='720'/>" ++ 10 ∷ []
still_text LogLegend =
    codes "<rect class='valid' x='40' y='154' width='12' height='12'/><text x='58' y='165'>valid</text>"
    ++ codes "<rect class='lost' x='116' y='154' width='12' height='12'/><text x='134' y='165'>lost</text>"
    ++ codes "<rect class='invalid' x='186' y='154' width='12' height='12'/><text x='204' y='165'>invalid</text>"
    ++ codes "<rect class='newer' x='270' y='154' width='12' height='12'/><text x='288' y='165'>newer than the commit</text>"
    ++ codes "<rect class='none' x='464' y='154' width='12' height='12'/><text x='482' y='165'>no record</text>"
    ++ codes "<rect class='free' x='568' y='154' width='12' height='12'/><text x='586' y='165'>free</text>" ++ 10 ∷ []
still_text IndexLegend =
    codes "<rect class='b0' x='40' y='620' width='12' height='12'/><text x='58' y='631'>empty</text>"
    ++ codes "<rect class='b1' x='120' y='620' width='12' height='12'/><text x='138' y='631'>to 1/4 of its slots</text>"
    ++ codes "<rect class='b2' x='286' y='620' width='12' height='12'/><text x='304' y='631'>to 1/2</text>"
    ++ codes "<rect class='b3' x='366' y='620' width='12' height='12'/><text x='384' y='631'>to 3/4</text>"
    ++ codes "<rect class='b4' x='446' y='620' width='12' height='12'/><text x='464' y='631'>to all</text>"
    ++ codes "<rect class='b5' x='522' y='620' width='12' height='12'/><text x='540' y='631'>more than all</text>" ++ 10 ∷ []
