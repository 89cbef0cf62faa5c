-- What the forms of the code mean. They borrow their texts from a line.
use Rattle.hippo_stmt_lines.specs.Forms.{Request, logs_in, logs_out, fetches, closes, steps, drops, unwatches, loads, Form, says_nothing, sets_clock, makes_request, makes_statement}
use Rattle.hippo_stmt_lines.specs.declared.forms.RequestForm.{RequestForm}
use Rattle.hippo_stmt_lines.specs.declared.forms.RequestForm.TheVariants.{Login, Logout, Fetch, Close, Step, Drop, Unwatch, Load}
use Rattle.hippo_stmt_lines.specs.declared.forms.LineForm.{LineForm}
use Rattle.hippo_stmt_lines.specs.declared.forms.LineForm.TheVariants.{Silent, At, Short, Statement}

abbrev pub request : RequestForm → Request
request (Login user purpose recipient) = logs_in user purpose recipient
request Logout = logs_out
request (Fetch cursor count) = fetches cursor count
request (Close cursor) = closes cursor
request (Step job count) = steps job count
request (Drop job) = drops job
request (Unwatch watch) = unwatches watch
request (Load table fields) = loads table fields.now

abbrev pub form : LineForm → Form
form Silent = says_nothing
form (At moment) = sets_clock moment.now
form (Short session asked) = makes_request session (request asked)
form (Statement session text) = makes_statement session text.now
