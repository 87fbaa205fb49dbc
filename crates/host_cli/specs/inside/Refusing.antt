-- How the program says that its words ask for nothing that there is.
use Rattle.std.specs.Prelude.{◌++◌, ℕ, List, codes}

-- for this reason, with the task whose help says more
abbrev pub refusal_text : List ℕ → List ℕ → List ℕ
refusal_text why task = codes "error: " ++ why ++ codes "\n\nFor more information, try 'tmhost " ++ task ++ codes " --help'.\n"
