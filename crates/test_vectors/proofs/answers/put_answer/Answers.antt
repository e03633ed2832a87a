use Rattle.test_vectors.specs.Front.{by}
use Rattle.test_vectors.proofs.answers.put_answer.Goals as goal

pub returns-in-TrimStart : goal.returns-in-TrimStart
returns-in-TrimStart c = search by

pub returns-in-TrimEnd : goal.returns-in-TrimEnd
returns-in-TrimEnd c = search by

pub returns-in-Trim : goal.returns-in-Trim
returns-in-Trim c = search by

pub returns-in-FirstWord : goal.returns-in-FirstWord
returns-in-FirstWord c = search by

pub returns-in-AfterWord : goal.returns-in-AfterWord
returns-in-AfterWord c = search by

pub returns-in-LastWord : goal.returns-in-LastWord
returns-in-LastWord c = search by

pub returns-in-EscapeXml : goal.returns-in-EscapeXml
returns-in-EscapeXml c = search by

pub returns-in-EscapeXmlAttr : goal.returns-in-EscapeXmlAttr
returns-in-EscapeXmlAttr c = search by

pub returns-in-PutNumber : goal.returns-in-PutNumber
returns-in-PutNumber c = search by

pub returns-in-Part : goal.returns-in-Part
returns-in-Part c = search by
