-- The text of a survey: document 01, "Text". Assumes nothing.
use Rattle.std.specs.Prelude.{List, ℕ}
use Rattle.forms.specs.Written.{written}
use Rattle.formats.specs.Surveys.{survey1}
use Rattle.rendering.specs.Filed.{Filed}
use Rattle.rendering.specs.Values.{values_of}

unfoldable pub rendered : Filed → List ℕ
rendered s = written survey1 (values_of s)
