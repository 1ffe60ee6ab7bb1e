-- What the words of a command line of `urilines` name.
use Rattle.std.specs.Prelude.{◌≡◌, ◌≢◌, ℕ, Bool, true, false, List, Option, Some, None, codes}
use Rattle.clap.specs.Matches.{one_text}
use Rattle.clap.specs.declared.parser.matches.Found.{Found}
use Rattle.uri_commands.specs.Kinds.{word_of_kind}
use Rattle.uri_streams.specs.CommandLines.{word_of_mode}
use Rattle.uri_commands.specs.declared.kinds.KindName.{KindName}
use Rattle.uri_streams.specs.declared.job.OnError.{OnError}

-- the word, if it is there, names this kind, or it names none
abbrev pub IsKindNamed : Option (List ℕ) → Option KindName → Type 0
IsKindNamed word (Some kind) = word ≡ Some (word_of_kind kind)
IsKindNamed word None = (kind : KindName) → word ≢ Some (word_of_kind kind)

-- the word of `--errors`, if it is there, names what happens to a line that is an error, or nothing
abbrev pub IsModeNamed : Option (List ℕ) → Option OnError → Type 0
IsModeNamed word (Some mode) = word ≡ Some (word_of_mode mode)
IsModeNamed word None = (mode : OnError) → word ≢ Some (word_of_mode mode)

-- what `clap` found has the option of this name, or lacks it
abbrev pub IsFlag : Found → List ℕ → Bool → Type 0
IsFlag found name is_given = (one_text found name ≡ Some (codes "true") → is_given ≡ true)
    × (one_text found name ≡ Some (codes "false") → is_given ≡ false)
    × (one_text found name ≡ None → is_given ≡ false)
