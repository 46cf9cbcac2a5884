-- The totals in words, and the legend.
use Rattle.std.specs.Prelude.{ℕ, ◌+◌, Bool, if◌then◌else◌, List, [], ◌++◌, length, codes, decimal}
use Rattle.cap_survey.specs.Totals.{totals_of}
use Rattle.cap_survey.specs.declared.cell.Cell.{Cell}
use Rattle.cap_survey.specs.declared.totals.Totals.{Totals}

-- what a picture begins with: its size, its classes, a white ground and its heading
abbrev pub head : ℕ → List ℕ
head width =
    codes "<svg xmlns='http://www.w3.org/2000/svg' viewBox='0 0 " ++ decimal (width + 108)
    ++ codes " 800' font-family='sans-serif' font-size='14'>\n<title>The survey of a disk</title>\n"
    ++ codes "<style>.g{stroke:#ccc}.k{stroke:#000;fill:none}.u{fill:#6b9fd1}.o{fill:#000}.f{fill:#777}"
    ++ codes ".d{stroke:#000;stroke-dasharray:10 5;fill:none}</style>\n"
    ++ codes "<rect width='" ++ decimal (width + 108)
    ++ codes "' height='800' fill='#fff'/>\n<text x='64' y='28' font-size='20' font-weight='bold'>"
    ++ codes "PI error rows of eight blocks (sum8) over a disk</text>\n"

abbrev pub counts_text : Totals → ℕ → List ℕ
counts_text totals columns =
    codes "<text x='64' y='52'>" ++ decimal totals.blocks ++ codes " blocks in " ++ decimal columns ++ codes " columns: " ++ decimal totals.pi
    ++ codes " PI error rows, " ++ decimal totals.failed ++ codes " failed rows, " ++ decimal totals.damaged ++ codes " refused blocks.</text>\n"

abbrev pub peak_text : Totals → List ℕ
peak_text totals =
    codes "<text x='64' y='70'>The greatest sum8 is " ++ decimal totals.peak ++ codes ", first at block " ++ decimal totals.peak_at
    ++ codes ". Blocks with a sum8 above 280: " ++ decimal totals.over ++ codes ".</text>\n"

-- a survey without its line of totals
abbrev pub cut_line : ℕ → List ℕ
cut_line blocks =
    codes "<text x='64' y='90' font-weight='bold'>The survey is cut before block " ++ decimal blocks ++ codes ". The totals are of the blocks before it.</text>\n"

abbrev pub cut_text : ℕ → Bool → List ℕ
cut_text blocks closed = if closed then [] else cut_line blocks

-- the totals in words
abbrev pub totals_text : List Cell → ℕ → Bool → List ℕ
totals_text cells columns closed =
    counts_text (totals_of cells) columns ++ peak_text (totals_of cells) ++ cut_text (length cells) closed

-- what the colours and the marks mean
abbrev pub lower_legend : List ℕ
lower_legend =
    codes "<path class='f' d='M64 750h24v9h-24z'/><path class='o' d='M64 760h24v4h-24z'/><text x='98' y='761'>"
    ++ codes "Lower band: the most failed rows of a block in a column, with a black mark below where there are any.</text>\n"
    ++ codes "<path class='o' d='M76 770l5 14h-10z'/><text x='98' y='781'>"
    ++ codes "A refused block is in this column.</text>\n</svg>\n"

abbrev pub legend : List ℕ
legend =
    codes "<path class='u' d='M64 690h24v12h-24z'/><text x='98' y='701'>"
    ++ codes "A column is as high as the greatest sum8 of its blocks: PI error rows of a block and the seven before it.</text>\n"
    ++ codes "<path class='o' d='M64 710h24v12h-24z'/><text x='98' y='721'>"
    ++ codes "The same above 280, with a black mark at the upper edge.</text>\n"
    ++ codes "<path class='d' stroke-width='2' d='M64 736h24'/><text x='98' y='741'>"
    ++ codes "280, what ECMA-267 allows.</text>\n" ++ lower_legend
