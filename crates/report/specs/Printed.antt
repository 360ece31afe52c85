-- Worked examples: the words of a list, and the text that is printed for their bytes.
use Rattle.std.specs.Prelude.{ℕ, List, [], ◌∷◌, length}
use Prim.Native.String.{String}
use Rattle.words.specs.Bytes.{to_bytes}

-- the bytes of a list, and its text
pub record Printed : Type 0 where
  pub bytes : List ℕ
  pub text : String

abbrev pub bytes_of_words : List ℕ → List ℕ
bytes_of_words ws = to_bytes ws (length ws)

unfoldable pub printed_table : List Printed
printed_table =
    record {
      bytes = bytes_of_words (0x20002002 ∷ 0x40000001 ∷ 0x60000007 ∷ 0x8000000A ∷ 0x40000400 ∷ 0x60000001 ∷ 0x80000003 ∷ 0xE0002418 ∷ []);
      text = "common 10 free 7 two 7 offset 3\n0 0 0\n1 3 3\n";
    }
    ∷ record {
      bytes = bytes_of_words (0x20002002 ∷ 0x40000001 ∷ 0x60000007 ∷ 0x8000000A ∷ 0x40000800 ∷ 0x60000001 ∷ 0x80000003 ∷ 0xE0002818 ∷ []);
      text = "refused 14 at 4\n";
    }
    ∷ record {
      bytes = bytes_of_words
          (0x20002002 ∷ 0xA0008001 ∷ 0xA0004002 ∷ 0x40000001 ∷ 0x60000007 ∷ 0x8000000A
          ∷ 0x40000400 ∷ 0x60000001 ∷ 0x80000003 ∷ 0xE000E41B ∷ []);
      text = "common 11 free 8 two 8 offset 3\n0 0 0\n1 3 3\n";
    }
    ∷ record {
      bytes = bytes_of_words (0x20002002 ∷ 0x40000001 ∷ 0x60000007 ∷ 0x8000000A ∷ 0x40000001 ∷ 0x60000002 ∷ 0x80000004 ∷ 0xE000201B ∷ []);
      text = "refused 20 at 4\n";
    }
    ∷ record { bytes = []; text = "refused 11 at 0\n" }
    ∷ record { bytes = 0 ∷ 0 ∷ 0 ∷ []; text = "refused 11 at 0\n" }
    ∷ []
