-- What is said of a line that is wrong.
use Rattle.std.specs.Prelude.{ℕ, ◌+◌, List, ◌++◌, take, codes, decimal, count_by, nat_eq}
use Rattle.console.specs.declared.mistake.Mistake.{Mistake}
use Rattle.console.specs.declared.mistake.Mistake.TheVariants.{NoFirstLine, FirstLine, NoTree, NoKind, LongSlice, NoCall, Arguments, NoNumber, Components, Component, NoHex, NoText, NoMemory}
use Rattle.console.specs.declared.mistake.Trouble.{Trouble}
use Rattle.hex.specs.declared.error.FromHexError.{FromHexError}
use Rattle.hex.specs.declared.error.FromHexError.TheVariants.{OutOfMemory}

abbrev pub said : Mistake → List ℕ
said NoFirstLine = codes "the script is empty"
said FirstLine = codes "a script begins with a line `tree KIND` or `tree KIND A B C D`"
said NoTree = codes "only tree scripts are taken"
said NoKind = codes "the kind is none of 1, 2 and 3"
said LongSlice = codes "a length is no number or above 4096"
said NoCall = codes "no call has this name"
said Arguments = codes "a wrong number of arguments"
said NoNumber = codes "an argument is no number or too large"
said Components = codes "a wrong number of components"
said Component = codes "a component is no number or beyond the carry limit"
said NoHex = codes "the bytes are no pairs of hex digits"
said NoText = codes "the line is no text"
said NoMemory = codes "there is no memory for it"

abbrev pub trouble : ℕ → Mistake → Trouble
trouble line mistake = record { line = line; mistake = mistake }

-- What is wrong with a word that is no pairs of hex digits, or for which there is no memory.
abbrev pub hex_mistake : FromHexError → Mistake
hex_mistake OutOfMemory = NoMemory
hex_mistake _ = NoHex

abbrev pub trouble_text : Trouble → List ℕ
trouble_text t = codes "line " ++ (decimal t.line ++ (codes ": " ++ said t.mistake))

-- The number of the line, from 1, that the byte at a place stands in.
abbrev pub line_of : List ℕ → ℕ → ℕ
line_of text place = count_by (λ b. nat_eq b 10) (take place text) + 1
