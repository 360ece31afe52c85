-- What was read and written, where the bytes of the reader and the writer are known.
use Rattle.std.specs.Prelude.{ℕ, ◌≤◌, ◌<◌, List, length, take, Option, IfSome}
use Rattle.std.specs.Io.KnownBytes.{Consumes, IsAtEnd}

-- n bytes came, which stand in the first places of the buffer: all that the input had, where the buffer is not full
pub record AllRead (had has : Option (List ℕ)) (buffer : List ℕ) (n : ℕ) : Type 0 where
  pub fits : n ≤ length buffer
  pub bytes : Consumes had has (take n buffer)
  pub whole : n < length buffer → IsAtEnd has

-- so it is with what was received, if no read failed
abbrev pub ReceivedAs : Option (List ℕ) → Option (List ℕ) → List ℕ → Option ℕ → Type 0
ReceivedAs had has buffer r = IfSome r (λ n. AllRead had has buffer n)
