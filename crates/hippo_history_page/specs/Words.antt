-- The words of a page that are always the same. They have no text from a store.
use Rattle.std.specs.Prelude.{◌++◌, codes}
use Rattle.hippo_values.specs.Texts.{Txt}

-- how the page looks, on a screen and on paper
abbrev pub style : Txt
style =
    codes "body { font-family: sans-serif; margin: 2em; }\n"
    ++ codes "table { border-collapse: collapse; }\n"
    ++ codes "thead { display: table-header-group; }\n"
    ++ codes "tr { break-inside: avoid; }\n"
    ++ codes "th, td { border: 1px solid #999; padding: 0.2em 0.5em; text-align: left; "
    ++ codes "vertical-align: top; }\n"
    ++ codes "td:nth-child(n+7) { overflow-wrap: anywhere; }\n"
    ++ codes "svg { width: 16em; height: 1em; }\n"
    ++ codes "rect { fill: #357; }\n"

-- what stands before and after the patient's number in the title and in the heading
unfoldable pub title_start : Txt
title_start =
    codes "<!DOCTYPE html>\n"
    ++ codes "<html lang=\"en\">\n"
    ++ codes "<head>\n"
    ++ codes "<meta charset=\"utf-8\">\n"
    ++ codes "<meta http-equiv=\"Content-Security-Policy\" content=\"default-src 'none'; "
    ++ codes "style-src 'unsafe-inline'\">\n"
    ++ codes "<title>What was disclosed of patient "

unfoldable pub heading_start : Txt
heading_start =
    codes "</title>\n<style>\n" ++ style
    ++ codes "</style>\n</head>\n<body>\n<h1>What was disclosed of patient "

unfoldable pub period_start : Txt
period_start = codes "</h1>\n<p>From "

unfoldable pub period_middle : Txt
period_middle = codes " to "

unfoldable pub period_end : Txt
period_end = codes ". Number of accesses: "

-- the beginning of each table
unfoldable pub askers_start : Txt
askers_start =
    codes ".</p>\n"
    ++ codes "<h2>Accesses by user and purpose</h2>\n"
    ++ codes "<table>\n"
    ++ codes "<thead><tr><th>User</th><th>Purpose</th><th>Accesses</th>"
    ++ codes "<th>Share</th></tr></thead>\n"
    ++ codes "<tbody>\n"

unfoldable pub days_start : Txt
days_start =
    codes "</tbody>\n"
    ++ codes "</table>\n"
    ++ codes "<h2>Accesses by day</h2>\n"
    ++ codes "<table>\n"
    ++ codes "<thead><tr><th>Day</th><th>Accesses</th><th>Share</th></tr></thead>\n"
    ++ codes "<tbody>\n"

unfoldable pub records_start : Txt
records_start =
    codes "</tbody>\n"
    ++ codes "</table>\n"
    ++ codes "<h2>Accesses</h2>\n"
    ++ codes "<table>\n"
    ++ codes "<thead><tr><th>Entry</th><th>Moment</th><th>User</th><th>Purpose</th>"
    ++ codes "<th>Recipient</th><th>Table</th><th>Key</th><th>Shown</th><th>Tested</th>"
    ++ codes "<th>Denied, with the rule</th></tr></thead>\n"
    ++ codes "<tbody>\n"

unfoldable pub page_close : Txt
page_close = codes "</tbody>\n</table>\n</body>\n</html>\n"

-- a bar: a part of a whole
unfoldable pub bar_start : Txt
bar_start = codes "<td><svg preserveAspectRatio=\"none\" viewBox=\"0 0 "

unfoldable pub bar_middle : Txt
bar_middle = codes " 1\"><rect height=\"1\" width=\""

unfoldable pub bar_end : Txt
bar_end = codes "\"/></svg></td>"

-- the tags of a row and of a cell
unfoldable pub row_start : Txt
row_start = codes "<tr>"

unfoldable pub row_end : Txt
row_end = codes "</tr>\n"

unfoldable pub cell_start : Txt
cell_start = codes "<td>"

unfoldable pub cell_end : Txt
cell_end = codes "</td>"
