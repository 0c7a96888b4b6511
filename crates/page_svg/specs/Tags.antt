-- Tags of SVG, text between them, and the head of a picture. Our own choice of them. Its tops are
-- `line_tag`, `box_tag`, `words_tag`, `titled_tag` and `head_svg`.
use Rattle.std.specs.Prelude.{ℕ, ◌==◌, ◌&&◌, not, ◌*◌, ◌%◌, Bool, true, false, List, [], ◌∷◌, ◌++◌}
use Rattle.std.specs.Prelude.{codes, decimal, flat_map, Option, Some, None, if◌then◌else◌}
use Rattle.page_svg.specs.declared.point.Point.{Point}

-- a byte as it is written between tags (XML 1.0, section 2.4, own)
abbrev pub escaped_byte : ℕ → List ℕ
escaped_byte b =
    if b == 60 then codes "&lt;"
    else if b == 62 then codes "&gt;"
    else if b == 38 then codes "&amp;"
    else if b == 34 then codes "&quot;"
    else b ∷ []

-- a text as it is written between tags (XML 1.0, section 2.4, own)
abbrev pub escaped : List ℕ → List ℕ
escaped text = flat_map escaped_byte text

-- a byte neither begins nor ends a tag or the value of an attribute: it isn't `<`, `>` or `"` (own)
abbrev pub is_plain : ℕ → Bool
is_plain b = not (b == 60) && (not (b == 62) && not (b == 34))

-- a line from one point to another, with further attributes (SVG 2, section 10.5, own)
unfoldable pub line_tag : (from to : Point) → (attributes : List ℕ) → List ℕ
line_tag from to attributes =
    (codes "<line x1=\"" ++ decimal from.x) ++ ((codes "\" y1=\"" ++ decimal from.y)
    ++ ((codes "\" x2=\"" ++ decimal to.x) ++ ((codes "\" y2=\"" ++ decimal to.y)
    ++ (codes "\"" ++ (attributes ++ codes "/>")))))

-- a box of this width and height, whose upper left corner is the point, with further attributes
-- (SVG 2, section 10.2, own)
unfoldable pub box_tag : Point → (width height : ℕ) → (attributes : List ℕ) → List ℕ
box_tag at width height attributes =
    (codes "<rect x=\"" ++ decimal at.x) ++ ((codes "\" y=\"" ++ decimal at.y)
    ++ ((codes "\" width=\"" ++ decimal width) ++ ((codes "\" height=\"" ++ decimal height)
    ++ (codes "\"" ++ (attributes ++ codes "/>")))))

-- a dot (SVG 2, section 10.3, own)
unfoldable pub dot_tag : Point → List ℕ
dot_tag at =
    (codes "<circle cx=\"" ++ decimal at.x) ++ ((codes "\" cy=\"" ++ decimal at.y)
    ++ codes "\" r=\"3\"/>")

-- the end of the tag of words, which begin or end at its point (SVG 2, section 11.10.2.1, own)
abbrev pub anchor_text : (ends : Bool) → List ℕ
anchor_text true = codes "\" text-anchor=\"end\">"
anchor_text false = codes "\">"

-- words that begin or end at a point (SVG 2, section 11.2, own)
unfoldable pub words_tag : Point → (ends : Bool) → (words : List ℕ) → List ℕ
words_tag at ends words =
    (codes "<text x=\"" ++ decimal at.x) ++ ((codes "\" y=\"" ++ decimal at.y)
    ++ (anchor_text ends ++ (escaped words ++ codes "</text>")))

-- the colour of a KeyID: each of the 256 has a hue of its own; black for none (CSS Color 4, section
-- 7, own)
unfoldable pub colour_text : (key_id : Option ℕ) → List ℕ
colour_text None = codes "#000"
colour_text (Some id) =
    (codes "hsl(" ++ decimal ((id * 137) % 360)) ++ codes ",90%,32%)"

-- a group that has a title: its class, the colour of its strokes, its title, and what is drawn of
-- it (SVG 2, section 5.1, own)
unfoldable pub titled_tag : (class colour title drawing : List ℕ) → List ℕ
titled_tag class colour title drawing =
    codes "<g class=\"" ++ (class ++ (codes "\" stroke=\"" ++ (colour ++ (codes "\"><title>"
    ++ (escaped title ++ (codes "</title>" ++ (drawing ++ codes "</g>\n")))))))

-- how words and the page look: words have a white edge, and a page that is narrower has a smaller
-- picture (SVG 2, section 6.2, own)
unfoldable pub style_svg : List ℕ
style_svg =
    codes "<style>text{stroke:#fff;stroke-width:3px;paint-order:stroke}svg{max-width:100%;"
    ++ codes "height:auto;background:#fff}</style>\n"

-- the head of a picture 800 wide and of this height (SVG 2, section 8.2, own)
unfoldable pub head_svg : (height : ℕ) → List ℕ
head_svg height =
    codes "<svg xmlns=\"http://www.w3.org/2000/svg\" width=\"800\""
    ++ ((codes " height=\"" ++ decimal height)
    ++ ((codes "\" viewBox=\"0 0 800 " ++ decimal height)
    ++ (codes "\" font-family=\"monospace\" font-size=\"12\" stroke-width=\"1.5\">\n"
    ++ style_svg)))
