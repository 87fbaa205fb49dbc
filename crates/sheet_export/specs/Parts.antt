-- The fixed parts of a page.
use Rattle.std.specs.Prelude.{ℕ, List, codes}

-- what is the same before the title of each page
abbrev pub meta : List ℕ
meta = codes "<!doctype html>\n<html lang=\"en\">\n<head>\n<meta charset=\"utf-8\">\n<meta name=\"viewport\" content=\"width=device-width, initial-scale=1\">\n<meta name=\"color-scheme\" content=\"light dark\">\n<meta http-equiv=\"Content-Security-Policy\" content=\"default-src 'none'; style-src 'unsafe-inline'; img-src data:\">\n<title>"

-- after the title
abbrev pub title_end : List ℕ
title_end = codes "</title>\n<style>\n"

-- after the style
abbrev pub style_end : List ℕ
style_end = codes "</style>\n</head>\n<body>\n<h1 dir=\"ltr\">"

-- after the heading
abbrev pub heading_end : List ℕ
heading_end = codes "</h1>\n<main>\n"

-- after the last field
abbrev pub page_end : List ℕ
page_end = codes "</main>\n</body>\n</html>\n"

-- before a field's number in its anchor
abbrev pub field_start : List ℕ
field_start = codes "<section id=\"field-"

-- between the anchor and the link to it
abbrev pub anchor_end : List ℕ
anchor_end = codes "\">\n<header><a href=\"#field-"

-- after the link's number
abbrev pub link_end : List ℕ
link_end = codes "\">#"

-- after the number that is shown
abbrev pub number_end : List ℕ
number_end = codes "</a> <bdi>"

-- after the session
abbrev pub session_end : List ℕ
session_end = codes "</bdi></header>\n"

-- before the prompt
abbrev pub input_start : List ℕ
input_start = codes "<pre class=\"in\" dir=\"ltr\"><bdi>"

-- after the prompt
abbrev pub prompt_end : List ℕ
prompt_end = codes "</bdi><code dir=\"ltr\">"

-- after the input
abbrev pub input_end : List ℕ
input_end = codes "</code></pre>\n"

-- a field without an answer
abbrev pub no_answer : List ℕ
no_answer = codes "<p class=\"none\">no answer</p>\n"

-- before the reason why a field lost its line
abbrev pub lost_start : List ℕ
lost_start = codes "<p class=\"none\">no answer: "

-- after that reason
abbrev pub lost_end : List ℕ
lost_end = codes "</p>\n"

-- before an output; HTML drops the line feed after `<pre>`, and so none of the output's
abbrev pub output_start : List ℕ
output_start = codes "<pre class=\"out\" dir=\"ltr\">\n"

-- after an output
abbrev pub output_end : List ℕ
output_end = codes "</pre>\n"

-- before what stands in a block `latex`
abbrev pub tex_start : List ℕ
tex_start = codes "<span class=\"tex\">"

-- after that
abbrev pub tex_end : List ℕ
tex_end = codes "</span>"

-- before and after an error
abbrev pub error_start : List ℕ
error_start = codes "<span class=\"error\">"

abbrev pub error_end : List ℕ
error_end = codes "</span>"

-- before the base64 of a picture
abbrev pub png_start : List ℕ
png_start = codes "<img alt=\"A picture (PNG)\" src=\"data:image/png;base64,"

abbrev pub jpeg_start : List ℕ
jpeg_start = codes "<img alt=\"A picture (JPEG)\" src=\"data:image/jpeg;base64,"

abbrev pub svg_start : List ℕ
svg_start = codes "<img alt=\"A picture (SVG)\" src=\"data:image/svg+xml;base64,"

-- after it
abbrev pub image_end : List ℕ
image_end = codes "\">"

-- after a field
abbrev pub field_end : List ℕ
field_end = codes "</section>\n"

-- the style
abbrev pub style : List ℕ
style = codes ":root{color-scheme:light dark;--ink:#1c2733;--dim:#66727f;--page:#f6f7f9;--card:#fff;--line:#dfe4ea;--mark:#0b62c4;--warn:#a15c00;--error:#b3261e}\n@media (prefers-color-scheme:dark){:root{--ink:#dce3ea;--dim:#93a0ad;--page:#11161c;--card:#19212a;--line:#2c3844;--mark:#6db3ff;--warn:#e5b567;--error:#ff8a80}}\n*{box-sizing:border-box}\nbody{margin:0 auto;padding:2rem 1rem 4rem;max-width:52rem;background:var(--page);color:var(--ink);font:16px/1.5 system-ui,sans-serif}\nh1{margin:0 0 1.5rem;font-size:1.6rem;font-weight:650;overflow-wrap:anywhere}\nsection{margin:0 0 1rem;border:1px solid var(--line);border-radius:.6rem;background:var(--card);overflow:hidden}\nsection:target{border-color:var(--mark);box-shadow:0 0 0 1px var(--mark)}\nheader{display:flex;gap:.6rem;padding:.35rem .9rem;border-bottom:1px solid var(--line);color:var(--dim);font-size:.8rem}\nheader a{color:var(--mark);text-decoration:none}\npre{margin:0;padding:.6rem .9rem;font:.9rem/1.5 ui-monospace,Consolas,monospace;white-space:pre-wrap;overflow-wrap:anywhere;tab-size:4}\n.in bdi{color:var(--dim);user-select:none}\n.in code{font:inherit;font-weight:600}\n.out{border-top:1px dashed var(--line);overflow-x:auto}\n.out img{display:block;max-width:100%;height:auto;margin:.4rem 0;background:#fff}\n.error{color:var(--error);border-left:.2rem solid var(--error);padding-left:.5rem}\n.none{margin:0;padding:.6rem .9rem;border-top:1px dashed var(--line);color:var(--warn);font-size:.85rem;font-style:italic}\n@media print{:root{--ink:#000;--dim:#444;--page:#fff;--card:#fff;--line:#999;--mark:#000;--warn:#000;--error:#000}body{max-width:none;padding:0}section{break-inside:avoid}}\n"
